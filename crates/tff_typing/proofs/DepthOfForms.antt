-- A typed formula is at most 402 deeper than the written one, so at most 1,402 deep.
use Rattle.std.proofs.Common.{◌≡◌, ◌⊎◌, inl, inr, ℕ, zero, suc, ◌+◌, ◌≤◌, ◌==◌, ◌&&◌, max, Bool, true, false, if◌then◌else◌, Option, Some, None, Ok, List, [], ◌∷◌, length, nat_lt, refl, arith, ap, subst, ◌∙◌}
use Rattle.std.proofs.lemmas.Option.{same_Some, none-some}
use Rattle.zm_logic.specs.Tree.{Ty, Tys, Term, Terms, Form, Symbol, Sense, Binder}
use Rattle.zm_logic.specs.Opening.{openings}
use Rattle.zm_logic.specs.Same.{same_type}
use Rattle.zm_logic.specs.Typing.{nth, symbol_at, individual, individuals, AreTypes, argument_types}
use Rattle.zm_logic.specs.Measure.{type_depth, types_depth}
use Rattle.tptp_reader.specs.Raw.{Name, RawType, RawTerm, RawTerms, RawForm}
use Rattle.tff_typing.specs.Written.{as_types, number_of_terms}
use Rattle.tptp_reader.specs.Raw.{raw_type_depth, raw_term_depth, raw_terms_depth, written_depth, raw_depth}
use Rattle.tptp_reader.specs.Limits.{IsNested}
use Rattle.tptp_reader.specs.Raw.{Quantifier}
use Rattle.tff_typing.specs.Written.{connective_of}
use Rattle.tff_typing.specs.Scope.{Scope, Variable, Bound, look_up, binder_of}
use Rattle.tff_typing.specs.Table.{Table, Numbered, Place, symbols_of, arity, declared, used, undeclared, sense_at, individuals_of, with_entry, most_symbols}
use Rattle.tff_typing.specs.Fault.{Fault, found_type, Outcome, ◌>>=◌}
use Rattle.tff_typing.specs.Places.{type_in, types_in, Use, if_symbol, new_symbol, used_or_new, declared_or_used, symbol_for, Expression, applied, if_term, term_variable, wanted, as_formula, first}
use Rattle.tff_typing.specs.Typing.{Typed, gives, unchanged, expression_in, terms_in, left_side, equality_in, binder_in, bind, form_in}
use Rattle.tff_typing.proofs.Outcomes.{both_ok, ok_same, no_ok, test_held}
use Rattle.tff_typing.proofs.Lookups.{looked_up}
use Rattle.zm_logic.proofs.TypeInstances.{how_many_instance}
use Rattle.tff_typing.proofs.Tables.{IsTable, use_is, symbols_more, InMore, in_more}
use Rattle.tff_typing.proofs.TypesTyped.{types_sound}
use Rattle.tff_typing.proofs.TermsTyped.{IsScope, scope_kept, expression_sound}
use Rattle.zm_logic.specs.Problem.{IsProblemForm}
use Rattle.tff_typing.proofs.FormsTyped.{form_sound, binder_is, no_parameter}
use Rattle.tff_typing.proofs.DepthBound.{ground_depth, flat, flats, flat_depth, close_flat_depth, instance_depth, written_type_depth, written_types_depth, first_depth}

-- declared types, and the types of variables, are as deep as a written type may be
pub record IsShallowTable (table : Table) : Type 0 where
  pub at : (n : ℕ) (d : Symbol) (r : Ty) → nth (symbols_of table) n ≡ Some d → d.sense ≡ Sense.function r
      → type_depth r ≤ 201
  pub arguments : (n : ℕ) (d : Symbol) → nth (symbols_of table) n ≡ Some d → types_depth d.arguments ≤ 201

individuals_depth : (n : ℕ) → types_depth (individuals_of n) ≤ 1
individuals_depth zero = omega arith
individuals_depth (suc n) = let h = individuals_depth n in omega arith

abbrev pub IsShallowBinder : Binder → Type 0
IsShallowBinder Binder.of_type = Unit {0}
IsShallowBinder (Binder.of_term t) = type_depth t ≤ 201

abbrev pub IsShallowScope : Scope → Type 0
IsShallowScope [] = Unit {0}
IsShallowScope (v ∷ vs) = IsShallowBinder v.binder × IsShallowScope vs

-- an expression as deep as k, whose type is found
abbrev pub IsShallow : ℕ → Expression → Type 0
IsShallow k (Expression.term t a) = (type_depth t ≤ 402) × (flat a ≤ k)
IsShallow k (Expression.atom p ts us) = 1 + max (types_depth ts) (flats us) ≤ k

pub record IsShallowTyped (k : ℕ) (e : Typed Expression) : Type 0 where
  pub tree : IsShallow k e.tree
  pub table : IsShallowTable e.table

pub record AreShallowTyped (k : ℕ) (e : Typed Terms) : Type 0 where
  pub trees : flats e.tree ≤ k
  pub table : IsShallowTable e.table

-- a use leaves the table, or adds the undeclared symbol
module _ (table : Table) (place : Place) (x : Name) (n : ℕ) where
  abbrev Left : Use → Type 0
  Left u = (table ≡ u.table) ⊎ (with_entry table false (undeclared place x n) ≡ u.table)

  left_symbol : (d : Numbered) (y : Sense) (u : Use) → if_symbol table d y ≡ Ok u → Left u
  left_symbol d Sense.constructor u h = absurd (no_ok _ u h)
  left_symbol d Sense.predicate u h =
      inl (ap (λ (z : Use). z.table) (ok_same (record { found = d; table = table }) u h))
  left_symbol d (Sense.function r) u h =
      inl (ap (λ (z : Use). z.table) (ok_same (record { found = d; table = table }) u h))

  left_new : (u : Use) → new_symbol table false (undeclared place x n) ≡ Ok u → Left u
  left_new u h =
      let r : Use = record {
        found = record {
          number = suc (length table);
          symbol = undeclared place x n;
        };
        table = with_entry table false (undeclared place x n);
      } in
      let t = test_held (nat_lt (length table) most_symbols) (Ok r) Fault.too_many_symbols u h in
      inr (ap (λ (z : Use). z.table) (ok_same r u t.1))

  left_used : (o : Option Numbered) (u : Use) → used_or_new table place x n o ≡ Ok u → Left u
  left_used None u h = left_new u h
  left_used (Some d) u h = left_symbol d d.symbol.sense u h

  left_declared : (o : Option Numbered) (u : Use) → declared_or_used table place x n o ≡ Ok u → Left u
  left_declared None u h = left_used (used table x n) u h
  left_declared (Some d) u h =
      let t = test_held (n == arity d.symbol) (if_symbol table d d.symbol.sense) Fault.arity u h in
      left_symbol d d.symbol.sense u t.1

pub function_same : (a b : Ty) → Sense.function a ≡ Sense.function b → a ≡ b
function_same a b h = cc

new_shallow : (table : Table) (place : Place) (x : Name) (n : ℕ) → IsShallowTable table
    → IsShallowTable (with_entry table false (undeclared place x n))
new_shallow table place x n ok = record { at = at; arguments = arguments }
  where
    arguments : (m : ℕ) (d : Symbol) → nth (symbols_of (with_entry table false (undeclared place x n))) m ≡ Some d
        → types_depth d.arguments ≤ 201
    arguments m d h =
        let q = rw (symbols_more table false (undeclared place x n)) at h in go
        (in_more (symbols_of table) (undeclared place x n) m d q)
      where
        go : InMore (symbols_of table) (undeclared place x n) m d → types_depth d.arguments ≤ 201
        go (InMore.before l i) = ok.arguments m d i
        go (InMore.last l i) =
            let k = ap (λ (y : Symbol). types_depth y.arguments) i in let b = individuals_depth n in omega arith

    made : (p : Place) (r : Ty) → sense_at p ≡ Sense.function r → type_depth r ≤ 201
    made Place.formula r h = absurd (no h)
      where
        no : Sense.predicate ≡ Sense.function r → ⊥
        no h = cc
    made Place.term r h = let e = ap type_depth (function_same individual r h) in omega arith

    at : (m : ℕ) (d : Symbol) (r : Ty) → nth (symbols_of (with_entry table false (undeclared place x n))) m ≡ Some d
        → d.sense ≡ Sense.function r → type_depth r ≤ 201
    at m d r h e =
        let q = rw (symbols_more table false (undeclared place x n)) at h in
        go (in_more (symbols_of table) (undeclared place x n) m d q)
      where
        go : InMore (symbols_of table) (undeclared place x n) m d → type_depth r ≤ 201
        go (InMore.before l i) = ok.at m d r i e
        go (InMore.last l i) = made place r (ap (λ (y : Symbol). y.sense) i ∙ e)

use_shallow : (table : Table) (place : Place) (x : Name) (n : ℕ) (u : Use) → IsShallowTable table
    → symbol_for table place x n ≡ Ok u → IsShallowTable u.table
use_shallow table place x n u ok h = go (left_declared table place x n (declared table x) u h)
  where
    go : (table ≡ u.table) ⊎ (with_entry table false (undeclared place x n) ≡ u.table) → IsShallowTable u.table
    go (inl e) = subst (λ (t : Table). IsShallowTable t) e ok
    go (inr e) = subst (λ (t : Table). IsShallowTable t) e (new_shallow table place x n ok)

carried_depth : (s : Scope) (n : ℕ) (t : Ty) → IsShallowScope s → binder_of s n ≡ Some (Binder.of_term t)
    → type_depth t ≤ 201
carried_depth [] n t ok h = absurd (none-some (Binder.of_term t) h)
carried_depth (v ∷ vs) n t ok h = go (n == length vs) h (λ i. carried_depth vs n t ok.1 i)
  where
    go : (b : Bool) → (if b then Some v.binder else binder_of vs n) ≡ Some (Binder.of_term t)
        → (binder_of vs n ≡ Some (Binder.of_term t) → type_depth t ≤ 201) → type_depth t ≤ 201
    go true h later = subst (λ (x : Binder). IsShallowBinder x) (same_Some v.binder (Binder.of_term t) h) ok.0
    go false h later = later h

variable_depth : (s : Scope) (o : Option Bound) (e : Expression) → IsShallowScope s
    → ((b : Bound) → o ≡ Some b → binder_of s b.number ≡ Some b.binder)
    → term_variable o ≡ Ok e → IsShallow 1 e
variable_depth s None e ok found h = absurd (no_ok _ e h)
variable_depth s (Some b) e ok found h = go b.binder (found b refl) h
  where
    go : (x : Binder) → binder_of s b.number ≡ Some x → if_term b.number x ≡ Ok e → IsShallow 1 e
    go Binder.of_type i h = absurd (no_ok _ e h)
    go (Binder.of_term t) i h =
        let l = carried_depth s b.number t ok i in
        subst (λ (y : Expression). IsShallow 1 y) (ok_same (Expression.term t (Term.eps b.number t)) e h)
        (omega arith, omega arith)

applied_depth : (symbols : List Symbol) (f : ℕ) (ts : Tys) (us : Terms) (k : ℕ) (x : Sense) → AreTypes symbols 0 ts
    → types_depth ts ≤ k → flats us ≤ k → k ≤ 200
    → ((r : Ty) → x ≡ Sense.function r → type_depth r ≤ 201) → IsShallow (1 + k) (applied f ts us x)
applied_depth symbols f ts us k Sense.constructor h a b c r = omega arith
applied_depth symbols f ts us k Sense.predicate h a b c r = omega arith
applied_depth symbols f ts us k (Sense.function t) h a b c r =
    let l = r t refl in
    let m = instance_depth symbols ts t h in
    (omega arith, omega arith)

wanted_depth : (k : ℕ) (t : Ty) (e : Expression) (u : Term) → IsShallow k e → wanted t e ≡ Ok u → flat u ≤ k
wanted_depth k t (Expression.term v a) u ok h =
    let b = test_held (same_type v t) (Ok a) (Fault.mismatch (found_type t) (found_type v)) u h in
    subst (λ (x : Term). flat x ≤ k) (ok_same a u b.1) ok.1
wanted_depth k t (Expression.atom p ts us) u ok h = absurd (no_ok _ u h)

-- the result of a symbol that stands in a table
result_depth : (table : Table) (f : ℕ) (d : Symbol) (r : Ty) → IsShallowTable table
    → symbol_at (symbols_of table) f ≡ Some d → d.sense ≡ Sense.function r → type_depth r ≤ 201
result_depth table zero d r ok h e = absurd (no (ap (λ (y : Symbol). y.sense) (same_Some individuals d h) ∙ e))
  where
    no : Sense.constructor ≡ Sense.function r → ⊥
    no h = cc
result_depth table (suc n) d r ok h e = ok.at n d r h e

variable_tree_depth : (table : Table) (s : Scope) (x : Name) (e : Typed Expression) → IsShallowTable table
    → IsShallowScope s
    → unchanged table (term_variable (look_up s x)) ≡ Ok e → IsShallowTyped 1 e
variable_tree_depth table s x e shallow small h =
    let a = both_ok (term_variable (look_up s x)) (λ y. gives table y) e h in
    let r : Typed Expression = record { tree = a.0; table = table } in
    subst (λ (y : Typed Expression). IsShallowTyped 1 y) (ok_same r e a.2)
    (record { tree = variable_depth s (look_up s x) a.0 small (λ b i. looked_up s x b i) a.1; table = shallow })

abbrev named_gives : Use → Tys → Typed Terms → Typed Expression
named_gives d ts vs = record { tree = applied d.found.number ts vs.tree d.found.symbol.sense; table = vs.table }

abbrev more_gives : Term → Typed Terms → Typed Terms
more_gives a vs = record { tree = Terms.more a vs.tree; table = vs.table }

abbrev no_terms : Table → Typed Terms
no_terms table = record { tree = Terms.none; table = table }

mutual
  pub expression_depth : (table : Table) (s : Scope) (place : Place) (u : RawTerm) (e : Typed Expression)
      → IsTable table → IsScope (symbols_of table) s
      → IsShallowTable table → IsShallowScope s → raw_term_depth u ≤ 201 → expression_in table s place u ≡ Ok e
      → IsShallowTyped (raw_term_depth u) e
  expression_depth table s place RawTerm.individual e ok scope shallow small l h = absurd (no_ok _ e h)
  expression_depth table s place RawTerm.truth e ok scope shallow small l h = absurd (no_ok _ e h)
  expression_depth table s place (RawTerm.variable x) e ok scope shallow small l h =
      variable_tree_depth table s x e shallow small h
  expression_depth table s place (RawTerm.named f us) e ok scope shallow small l h =
      let a = both_ok (symbol_for table place f (number_of_terms us)) _ e h in
      let d = a.0 in
      let b = both_ok (types_in d.table s (as_types (first d.found.symbol.types us))) _ e a.2 in
      let ts = b.0 in
      let c = both_ok (terms_in d.table s d.found.symbol.types (argument_types d.found.symbol ts) us) _ e b.2 in
      let vs = c.0 in
      let x = use_is table ok place f (number_of_terms us) d a.1 in
      let table_shallow = use_shallow table place f (number_of_terms us) d shallow a.1 in
      let t = types_sound d.table s x.good.signature (as_types (first d.found.symbol.types us)) ts b.1 in
      let m = how_many_instance (openings ts) d.found.symbol.arguments in
      let n : number_of_terms us ≡ arity d.found.symbol = x.number in
      let i = written_types_depth d.table s (as_types (first d.found.symbol.types us)) ts b.1 in
      let j = first_depth d.found.symbol.types us in
      let v = terms_depth_is d.table s d.found.symbol.types (argument_types d.found.symbol ts) us vs x.good
      (scope_kept (symbols_of table) (symbols_of d.table) s x.grows scope) table_shallow small (omega arith) c.1 in
      subst (λ (y : Typed Expression). IsShallowTyped (1 + raw_terms_depth us) y) (ok_same (named_gives d ts vs) e c.2)
      (record {
        tree =
            applied_depth (symbols_of d.table) d.found.number ts vs.tree
            (raw_terms_depth us) d.found.symbol.sense t.typed (omega arith) v.trees (omega arith)
            (λ r q. result_depth d.table d.found.number d.found.symbol r table_shallow x.at q);
        table = v.table;
      })

  pub terms_depth_is : (table : Table) (s : Scope) (n : ℕ) (ws : Tys) (us : RawTerms) (e : Typed Terms) → IsTable table
      → IsScope (symbols_of table) s
      → IsShallowTable table → IsShallowScope s → raw_terms_depth us ≤ 200 → terms_in table s n ws us ≡ Ok e
      → AreShallowTyped (raw_terms_depth us) e
  terms_depth_is table s n ws RawTerms.none e ok scope shallow small l h =
      subst (λ (y : Typed Terms). AreShallowTyped 0 y) (ok_same (no_terms table) e h)
      (record { trees = omega arith; table = shallow })
  terms_depth_is table s (suc n) ws (RawTerms.more u us) e ok scope shallow small l h =
      let i = terms_depth_is table s n ws us e ok scope shallow small (omega arith) h in
      record { trees = omega (arith, i.trees); table = i.table }
  terms_depth_is table s zero Tys.none (RawTerms.more u us) e ok scope shallow small l h =
      subst (λ (y : Typed Terms). AreShallowTyped (max (raw_term_depth u) (raw_terms_depth us)) y)
      (ok_same (no_terms table) e h) (record { trees = omega arith; table = shallow })
  terms_depth_is table s zero (Tys.more w ws) (RawTerms.more u us) e ok scope shallow small l h =
      let a = both_ok (expression_in table s Place.term u) _ e h in
      let x = a.0 in
      let b = both_ok (wanted w x.tree) _ e a.2 in
      let c = both_ok (terms_in x.table s zero ws us) _ e b.2 in
      let vs = c.0 in
      let i = expression_sound table s Place.term u x ok scope a.1 in
      let j = expression_depth table s Place.term u x ok scope shallow small (omega arith) a.1 in
      let k = wanted_depth (raw_term_depth u) w x.tree b.0 j.tree b.1 in
      let v = terms_depth_is x.table s zero ws us vs i.grown.good
      (scope_kept (symbols_of table) (symbols_of x.table) s i.grown.grows scope) j.table small (omega arith) c.1 in
      let m = v.trees in
      subst (λ (y : Typed Terms). AreShallowTyped (max (raw_term_depth u) (raw_terms_depth us)) y)
      (ok_same (more_gives b.0 vs) e c.2)
      (record { trees = omega arith; table = v.table })

-- formulas
pub record IsShallowForm (k : ℕ) (e : Typed Form) : Type 0 where
  pub tree : flat_depth e.tree ≤ k + 402
  pub table : IsShallowTable e.table

abbrev form_of : Form → Table → Typed Form
form_of f table = record { tree = f; table = table }

atom_depth : (k : ℕ) (x : Expression) (f : Form) → IsShallow k x → as_formula x ≡ Ok f → flat_depth f ≤ k + 402
atom_depth k (Expression.term t a) f ok h = absurd (no_ok _ f h)
atom_depth k (Expression.atom p ts us) f ok h = let e = ap flat_depth (ok_same (Form.atom p ts us) f h) in omega arith

left_depth : (k : ℕ) (x : Expression) (t : Ty) → IsShallow k x → left_side x ≡ Ok t → type_depth t ≤ 402
left_depth k (Expression.term u a) t ok h = let e = ap type_depth (ok_same u t h) in let l = ok.0 in omega arith
left_depth k (Expression.atom p ts us) t ok h = absurd (no_ok _ t h)

written_binder : (table : Table) (s : Scope) (t : RawType) (b : Binder) → raw_type_depth t ≤ 201
    → (type_in table s t >>= λ u. Ok (Binder.of_term u)) ≡ Ok b → IsShallowBinder b
written_binder table s t b l h =
    let a = both_ok (type_in table s t) (λ u. Ok (Binder.of_term u)) b h in
    let i = written_type_depth table s t a.0 a.1 in
    subst (λ (x : Binder). IsShallowBinder x) (ok_same (Binder.of_term a.0) b a.2) (omega arith)

abbrev an_individual : Outcome Binder
an_individual = Ok (Binder.of_term individual)

individual_binder : (b : Binder) → an_individual ≡ Ok b → IsShallowBinder b
individual_binder b h =
    subst (λ (x : Binder). IsShallowBinder x) (ok_same (Binder.of_term individual) b h) (omega arith)

binder_depth : (table : Table) (s : Scope) (o : Option RawType) (b : Binder)
    → written_depth o ≤ 201
    → binder_in table s o ≡ Ok b → IsShallowBinder b
binder_depth table s None b l h = individual_binder b h
binder_depth table s (Some RawType.kind) b l h = subst (λ (x : Binder). IsShallowBinder x) (ok_same Binder.of_type b h) tt
binder_depth table s (Some RawType.individual) b l h = individual_binder b h
binder_depth table s (Some RawType.truth) b l h = absurd (no_ok _ b h)
binder_depth table s (Some (RawType.variable x)) b l h = written_binder table s (RawType.variable x) b l h
binder_depth table s (Some (RawType.named c ts)) b l h = written_binder table s (RawType.named c ts) b l h

bound_depth : (q : Quantifier) (b : Binder) (n k w : ℕ) (f : Form) → IsShallowBinder b → flat_depth f ≤ k + 402
    → flat_depth (bind q b n f) ≤ 1 + max w k + 402
bound_depth q Binder.of_type n k w f small h = omega (arith, close_flat_depth n 0 f)
bound_depth q (Binder.of_term t) n k w f small h = omega (arith, close_flat_depth n 0 f)

equality_depth : (table : Table) (s : Scope) (l r : RawTerm) (e : Typed Form) → IsTable table
    → IsScope (symbols_of table) s → IsShallowTable table → IsShallowScope s
    → raw_term_depth l ≤ 201 → raw_term_depth r ≤ 201 → equality_in table s l r ≡ Ok e
    → IsShallowForm (1 + max (raw_term_depth l) (raw_term_depth r)) e
equality_depth table s l r e ok scope shallow small p q h =
    let a = both_ok (expression_in table s Place.term l) _ e h in
    let x = a.0 in
    let b = both_ok (left_side x.tree) _ e a.2 in
    let t = b.0 in
    let c = both_ok (wanted t x.tree) _ e b.2 in
    let d = both_ok (expression_in x.table s Place.term r) _ e c.2 in
    let y = d.0 in
    let g = both_ok (wanted t y.tree) _ e d.2 in
    let i = expression_sound table s Place.term l x ok scope a.1 in
    let j = expression_depth table s Place.term l x ok scope shallow small p a.1 in
    let k = expression_depth x.table s Place.term r y i.grown.good
    (scope_kept (symbols_of table) (symbols_of x.table) s i.grown.grows scope) j.table small q d.1 in
    let type = left_depth (raw_term_depth l) x.tree t j.tree b.1 in
    let left = wanted_depth (raw_term_depth l) t x.tree c.0 j.tree c.1 in
    let right = wanted_depth (raw_term_depth r) t y.tree g.0 k.tree g.1 in
    subst (λ (z : Typed Form). IsShallowForm (1 + max (raw_term_depth l) (raw_term_depth r)) z)
    (ok_same (form_of (Form.equal t c.0 g.0) y.table) e g.2)
    (record { tree = omega arith; table = k.table })

pub form_depth : (table : Table) (s : Scope) (f : RawForm) (e : Typed Form) → IsTable table
    → IsScope (symbols_of table) s → IsShallowTable table
    → IsShallowScope s → IsNested f → form_in table s f ≡ Ok e → IsShallowForm (raw_depth f) e
form_depth table s RawForm.truth e ok scope shallow small l h =
    subst (λ (z : Typed Form). IsShallowForm 1 z) (ok_same (form_of Form.truth table) e h)
    (record { tree = omega arith; table = shallow })
form_depth table s RawForm.falsity e ok scope shallow small l h =
    subst (λ (z : Typed Form). IsShallowForm 1 z) (ok_same (form_of Form.falsity table) e h)
    (record { tree = omega arith; table = shallow })
form_depth table s (RawForm.plain u) e ok scope shallow small l h =
    let a = both_ok (expression_in table s Place.formula u) _ e h in
    let x = a.0 in
    let b = both_ok (as_formula x.tree) _ e a.2 in
    let i = expression_depth table s Place.formula u x ok scope shallow small l a.1 in
    subst (λ (z : Typed Form). IsShallowForm (raw_term_depth u) z) (ok_same (form_of b.0 x.table) e b.2)
    (record { tree = atom_depth (raw_term_depth u) x.tree b.0 i.tree b.1; table = i.table })
form_depth table s (RawForm.equal a b) e ok scope shallow small l h =
    equality_depth table s a b e ok scope shallow small l.0 l.1 h
form_depth table s (RawForm.negation f) e ok scope shallow small l h =
    let a = both_ok (form_in table s f) _ e h in
    let i = form_depth table s f a.0 ok scope shallow small l a.1 in
    let t = i.tree in
    subst (λ (z : Typed Form). IsShallowForm (1 + raw_depth f) z)
    (ok_same (form_of (Form.negation a.0.tree) a.0.table) e a.2)
    (record { tree = omega arith; table = i.table })
form_depth table s (RawForm.binary c f g) e ok scope shallow small l h =
    let a = both_ok (form_in table s f) _ e h in
    let x = a.0 in
    let b = both_ok (form_in x.table s g) _ e a.2 in
    let y = b.0 in
    let k = form_sound table s f x ok scope a.1 in
    let i = form_depth table s f x ok scope shallow small l.0 a.1 in
    let j = form_depth x.table s g y k.grown.good
    (scope_kept (symbols_of table) (symbols_of x.table) s k.grown.grows scope) i.table small l.1 b.1 in
    let t = i.tree in
    let u = j.tree in
    subst (λ (z : Typed Form). IsShallowForm (1 + max (raw_depth f) (raw_depth g)) z)
    (ok_same (form_of (Form.binary (connective_of c) x.tree y.tree) y.table) e b.2)
    (record { tree = omega arith; table = j.table })
form_depth table s (RawForm.quantified q v f) e ok scope shallow small l h =
    let a = both_ok (binder_in table s v.type) _ e h in
    let w : Variable = record { name = v.name; binder = a.0 } in
    let b = both_ok (form_in table (w ∷ s) f) _ e a.2 in
    let x = b.0 in
    let binder = binder_is table ok s v.type a.0 a.1 in
    let low = binder_depth table s v.type a.0 l.0 a.1 in
    let i = form_depth table (w ∷ s) f x ok (scope, binder) shallow (low, small) l.1 b.1 in
    subst (λ (z : Typed Form). IsShallowForm (1 + max (written_depth v.type) (raw_depth f)) z)
    (ok_same (form_of (bind q a.0 (length s) x.tree) x.table) e b.2)
    (record {
      tree = bound_depth q a.0 (length s) (raw_depth f) (written_depth v.type) x.tree low i.tree;
      table = i.table;
    })

-- a formula of a statement within the limits is a formula of a problem
pub problem_form : (table : Table) (f : RawForm) (e : Typed Form) → IsTable table → IsShallowTable table → IsNested f
    → raw_depth f ≤ 1000
    → form_in table [] f ≡ Ok e → IsProblemForm (symbols_of e.table) e.tree
problem_form table f e ok shallow nested low h =
    let i = form_sound table [] f e ok tt h in
    let g = no_parameter (symbols_of e.table) e.tree i.form in
    let d = form_depth table [] f e ok tt shallow tt nested h in
    let t = d.tree in
    record { typed = i.form.typed; parameters = g; shallow = omega (arith, ground_depth e.tree g) }
