-- What the statements so far make, one further.
use Rattle.std.proofs.Common.{◌≡◌, ℕ, zero, suc, ◌+◌, ◌<◌, ◌≤◌, true, Option, Some, None, Result, Ok, Err, List, [], ◌∷◌, ◌++◌, map, length, get_or, slice_get, take, refl, ap, arith, sym, ◌∙◌}
use Rattle.std.proofs.lemmas.List.{take_more, take_all}
use Rattle.zm_logic.specs.declared.problem.Premise.{Premise}
use Rattle.zm_logic.specs.declared.problem.Problem.{Problem}
use Rattle.zm_logic.specs.Tree as tree
use Rattle.zm_logic.specs.Tree.{Form, Role}
use Rattle.zm_logic.specs.View.{premise_tree, problem_tree, symbol_tree}
use Rattle.zm_logic.specs.Parameter.{HasNoParameter}
use Rattle.zm_logic.specs.Problem.{IsTypedProblem}
use Rattle.tptp_reader.specs.Raw.{RawForm, RawStatement}
use Rattle.tptp_reader.specs.View.{statement_tree}
use Rattle.tptp_include.specs.declared.gathered.GatheredStatement.{GatheredStatement}
use Rattle.tptp_include.specs.declared.refusal.Place.{Place}
use Rattle.tptp_include.specs.Gathering.{IsGathered}
use Rattle.tptp_include.specs.Outcomes.{placed_of}
use Rattle.zm_logic.specs.declared.problem.Symbol.{Symbol}
use Rattle.std.specs.List.{AllByRecursion}
use Rattle.tff_typing.specs.Written.{premise_role}
use Rattle.tff_typing.specs.Table.{symbols_of}
use Rattle.tff_typing.specs.Fault.{Fault, Outcome}
use Rattle.tff_typing.specs.Typing.{Typed, form_in}
use Rattle.tff_typing.specs.Statements.{State, start, formula_of, statement_in, Refusal, refused_at, then_typed, statements_in, symbols_if, problem_of, AreWithinLimits}
use Rattle.tff_typing.specs.Rules.{MakeProblem}
use Rattle.tff_typing.specs.Indexed.{form_at, formula_at, statement_at}
use Rattle.tff_typing.specs.declared.state.State as code
use Rattle.tff_typing.specs.declared.fault.Fault as faults
use Rattle.tff_typing.specs.View.{state_tree, fault_tree, raw_statements, Refuses}
use Rattle.tff_typing.proofs.FormsTyped.{form_sound, no_parameter}
use Rattle.tff_typing.proofs.StatementsTyped.{IsState, start_is, statements_are, no_refusal, typed_same}
use Rattle.tff_typing.proofs.StatementsHold.{statements_hold}
use Rattle.tff_typing.proofs.Indexed.{shown_form, form_shown, indexed_form_free}
use Rattle.tff_typing.proofs.Problems.{problem_is_typed}

pub premise_push : (ps : List Premise) (p : Premise)
    → map premise_tree (ps ++ p ∷ []) ≡ map premise_tree ps ++ premise_tree p ∷ []
premise_push [] p = refl
premise_push (x ∷ xs) p = ap (λ l. premise_tree x ∷ l) (premise_push xs p)

-- a formula outside of which no variable is bound has no parameter, so the walk gives the formula itself
shown_free : (r : Outcome (Typed Form)) → ((g : Typed Form) → r ≡ Ok g → HasNoParameter g.tree) → shown_form 0 r ≡ r
shown_free (Ok g) h = rw (indexed_form_free 0 g.tree (h g refl)) refl
shown_free (Err e) h = refl

module _ (state : State) (ok : IsState state) where
  form_same : (f : RawForm) → form_at state.table [] f ≡ form_in state.table [] f
  form_same f =
      form_shown state.table [] f
      ∙ shown_free (form_in state.table [] f)
      (λ g h. no_parameter (symbols_of g.table) g.tree (form_sound state.table [] f g ok.table tt h).form)

  statement_same : (x : RawStatement) → statement_at state x ≡ statement_in state x
  statement_same (RawStatement.formula x role f) = go (premise_role role)
    where
      go : (o : Option Role) → formula_at state x o f ≡ formula_of state x o f
      go (Some role) = rw (form_same f) refl
      go None = rw (form_same f) refl
  statement_same (RawStatement.typing x subject top) = refl
  statement_same (RawStatement.inclusion file names) = refl

-- one more statement
statements_more : (k : ℕ) (s : State) (xs : List RawStatement) (x : RawStatement) (next last : State)
    → statements_in k s xs ≡ Ok next
    → statement_in next x ≡ Ok last → statements_in k s (xs ++ x ∷ []) ≡ Ok last
statements_more k s [] x next last h i =
    let e = typed_same s next h in
    let j : statement_in s x ≡ Ok last = ap (λ (y : State). statement_in y x) e ∙ i in
    rw j refl
statements_more k s (y ∷ ys) x next last h i =
    go (statement_in s y) h (λ mid e. statements_more (suc k) mid ys x next last e i)
  where
    go : (r : Outcome State)
        → then_typed (refused_at k (symbols_of s.table) r) (λ mid. statements_in (suc k) mid ys) ≡ Ok next
        → ((mid : State) → statements_in (suc k) mid ys ≡ Ok next → statements_in (suc k) mid (ys ++ x ∷ []) ≡ Ok last)
        → then_typed (refused_at k (symbols_of s.table) r) (λ mid. statements_in (suc k) mid (ys ++ x ∷ [])) ≡ Ok last
    go (Ok mid) h later = later mid h
    go (Err e) h later = absurd (no_refusal _ next h)

statements_fault : (k n : ℕ) (s : State) (xs : List GatheredStatement) (i : ℕ) (d : GatheredStatement) (next : State)
    (e : Fault) → i < length xs → d ≡ get_or xs i d → n ≡ k + i
    → statements_in k s (raw_statements (take i xs)) ≡ Ok next → statement_in next (statement_tree d.statement) ≡ Err e
    → statements_in k s (raw_statements xs) ≡ Err (record { statement = n; symbols = symbols_of next.table; fault = e })
statements_fault k n s [] i d next e l g m h f = absurd (omega arith)
statements_fault k n s (x ∷ xs) zero d next e l g m h f =
    let q = typed_same s next h in
    let j : statement_in s (statement_tree x.statement)
    ≡ Err e = ap (λ (y : GatheredStatement). statement_in s (statement_tree y.statement)) (sym g)
    ∙ ap (λ (y : State). statement_in y (statement_tree d.statement)) q ∙ f in
    let a : k ≡ n = omega arith in
    rw j (ap (λ (y : State). refusal (record { statement = k; symbols = symbols_of y.table; fault = e })) q
    ∙ ap (λ (y : ℕ). refusal (record { statement = y; symbols = symbols_of next.table; fault = e })) a)
  where
    refusal : Refusal → Result State Refusal
    refusal r = Err r
statements_fault k n s (x ∷ xs) (suc i) d next e l g m h f =
    go (statement_in s (statement_tree x.statement)) h
    (λ mid q. statements_fault (suc k) n mid xs i d next e (omega arith) g (omega arith) q f)
  where
    go : (r : Outcome State)
        → then_typed (refused_at k (symbols_of s.table) r)
        (λ mid. statements_in (suc k) mid (raw_statements (take i xs))) ≡ Ok next
        → ((mid : State) → statements_in (suc k) mid (raw_statements (take i xs)) ≡ Ok next
        → statements_in (suc k) mid (raw_statements xs)
        ≡ Err (record { statement = n; symbols = symbols_of next.table; fault = e }))
        → then_typed (refused_at k (symbols_of s.table) r) (λ mid. statements_in (suc k) mid (raw_statements xs))
        ≡ Err (record { statement = n; symbols = symbols_of next.table; fault = e })
    go (Ok mid) h later = later mid h
    go (Err e) h later = absurd (no_refusal _ next h)

raw_push : (xs : List GatheredStatement) (x : GatheredStatement)
    → raw_statements (xs ++ x ∷ []) ≡ raw_statements xs ++ statement_tree x.statement ∷ []
raw_push [] x = refl
raw_push (y ∷ ys) x = ap (λ l. statement_tree y.statement ∷ l) (raw_push ys x)

made : (xs : List RawStatement) (state : State) → statements_in 0 start xs ≡ Ok state → IsState state
made xs state h = statements_are 0 start xs state start_is h

pub states_step : (xs : List GatheredStatement) (n : ℕ) (d : GatheredStatement) (before after : code.State)
    → n < length xs → d ≡ get_or xs n d
    → statements_in 0 start (raw_statements (take n xs)) ≡ Ok (state_tree before)
    → statement_at (state_tree before) (statement_tree d.statement) ≡ Ok (state_tree after)
    → statements_in 0 start (raw_statements (take (n + 1) xs)) ≡ Ok (state_tree after)
states_step xs n d before after l g h f =
    let ok = made (raw_statements (take n xs)) (state_tree before) h in
    let j = sym (statement_same (state_tree before) ok (statement_tree d.statement)) ∙ f in
    rw (take_more xs n d l, ← g, raw_push (take n xs) d)
    (statements_more 0 start (raw_statements (take n xs)) (statement_tree d.statement) (state_tree before)
    (state_tree after) h j)

pub states_stop : (xs : List GatheredStatement) (n : ℕ) (d : GatheredStatement) (before : code.State) (f : faults.Fault)
    → n < length xs → d ≡ get_or xs n d
    → statements_in 0 start (raw_statements (take n xs)) ≡ Ok (state_tree before)
    → statement_at (state_tree before) (statement_tree d.statement) ≡ Err (fault_tree f)
    → statements_in 0 start (raw_statements xs)
    ≡ Err (record {
      statement = n;
      symbols = symbols_if (statements_in 0 start (raw_statements (take n xs)));
      fault = fault_tree f;
    })
states_stop xs n d before f l g h e =
    let ok = made (raw_statements (take n xs)) (state_tree before) h in
    let j = sym (statement_same (state_tree before) ok (statement_tree d.statement)) ∙ e in
    rw h (statements_fault 0 n start xs n d (state_tree before) (fault_tree f) l g (omega arith) h j)

pub typed_problem : (xs : List GatheredStatement) (state : code.State) (p : Problem)
    → AreWithinLimits (raw_statements xs) → statements_in 0 start (raw_statements xs) ≡ Ok (state_tree state)
    → problem_tree p ≡ problem_of (state_tree state) → IsTypedProblem (problem_tree p)
typed_problem xs state p l h e =
    problem_is_typed (raw_statements xs) (problem_tree p) l (rw h (ap (λ (y : tree.Problem). problem y) (sym e)))
  where
    problem : tree.Problem → Result tree.Problem Refusal
    problem x = Ok x

-- what the statements make is their problem by the rules
pub made_problem : (xs : List GatheredStatement) (state : code.State) (p : Problem)
    → statements_in 0 start (raw_statements xs) ≡ Ok (state_tree state)
    → problem_tree p ≡ problem_of (state_tree state) → MakeProblem (raw_statements xs) (problem_tree p)
made_problem xs state p h e = record {
  state = state_tree state;
  made = statements_hold 0 start (raw_statements xs) (state_tree state) h;
  problem = sym e;
}

pub all_taken : {A : Type 0} (xs : List A) (n : ℕ) → length xs ≤ n → xs ≡ take n xs
all_taken xs n l = sym (take_all n xs l)

-- gathered statements are within the reader's limits
pub gathered_within : (xs : List GatheredStatement) → AllByRecursion IsGathered (map placed_of xs)
    → AreWithinLimits (raw_statements xs)
gathered_within [] h = tt
gathered_within (x ∷ xs) h = (h.0.1, gathered_within xs h.1)

placed_got : (xs : List GatheredStatement) (n : ℕ) (d : GatheredStatement) → n < length xs → d ≡ get_or xs n d
    → slice_get (map placed_of xs) n ≡ Some (placed_of d)
placed_got [] n d l g = absurd (omega arith)
placed_got (x ∷ xs) zero d l g = ap (λ (y : GatheredStatement). Some (placed_of y)) (sym g)
placed_got (x ∷ xs) (suc n) d l g = placed_got xs n d (omega arith) g

-- the refusal with the place of its statement
pub refuses : (xs : List GatheredStatement) (n : ℕ) (f : faults.Fault) (d : GatheredStatement) (place : Place)
    (symbols : List Symbol) → n < length xs → d ≡ get_or xs n d
    → statements_in 0 start (raw_statements xs)
    ≡ Err (record {
      statement = n;
      symbols = symbols_if (statements_in 0 start (raw_statements (take n xs)));
      fault = fault_tree f;
    })
    → map symbol_tree symbols ≡ symbols_if (statements_in 0 start (raw_statements (take n xs))) → place.file ≡ d.file
    → place.at ≡ d.statement.at
    → Refuses (map placed_of xs) (record { place = place; fault = f; symbols = symbols })
refuses xs n f d place symbols l g h s p a = record {
  refusal =
      record {
        statement = n;
        symbols = symbols_if (statements_in 0 start (raw_statements (take n xs)));
        fault = fault_tree f;
      };
  found = rw h refl;
  fault = refl;
  symbols = s;
  placed = placed_of d;
  stands = placed_got xs n d l g;
  file = p;
  place = a;
}
