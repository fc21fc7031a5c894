-- The signature of a typed problem and its selection is a file's.
use Rattle.std.proofs.Common.{ℕ, zero, suc, ◌≡◌, ◌≢◌, ◌+◌, ◌<◌, ◌≤◌, ◌^◌, ◌==◌, Bool, true, false, ◌||◌, inl, inr, Option, Some, None, List, [], ◌∷◌, ◌++◌, length, map, take, refl, ap, sym, ◌∙◌, subst, append_assoc, arith, All}
use Rattle.std.specs.Prelude.{codes, nat_lt, ◌-◌}
use Rattle.std.specs.List.{Contains}
use Rattle.std.specs.Str.{bytes_eq}
use Rattle.std.proofs.lemmas.Slice.Eq.{bytes_eq-Decides}
use Rattle.std.proofs.lemmas.List.Elements.{All-head, All-tail}
use Rattle.lp_terms.specs.Signature.{Entry}
use Rattle.lp_terms.specs.Measure.{entries_depth, limit}
use Rattle.lp_terms.specs.Names.{is_among}
use Rattle.lp_terms.specs.Names as names
use Rattle.lp_terms.specs.File.{IsNewName, IsTermOf, IsEntryOf, AreEntriesOf, IsFile, declared_after}
use Rattle.lp_terms.specs.File as file
use Rattle.zm_logic.specs.Tree.{Form, Symbol, Sense, Binder, Side, Rule, Premise, Problem, iff}
use Rattle.zm_logic.specs.Typing.{nth, symbol_at, WellTyped, IsSense, IsSignature}
use Rattle.zm_logic.specs.Problem.{prenex, IsTypedSides, IsProblemForm}
use Rattle.zm_logic.proofs.ClosedForm.{form_is_closed}
use Rattle.rule_select.specs.Selection.{Selection, Sorts, IsSelection, kept_of, kept_premises}
use Rattle.rule_select.specs.Sound.{IsClosedSide, IsSound}
use Rattle.rule_select.proofs.Selected.{selected_rules_are_sound}
use Rattle.lp_signature.specs.Prelude.{prelude}
use Rattle.lp_signature.specs.Names.{symbol_name, name_of, constant, premise_name}
use Rattle.lp_signature.specs.Translation.{symbol_type}
use Rattle.lp_signature.specs.Problem.{heads, symbol_entries, side_of, rule_entry, premise_entries}
use Rattle.lp_signature.specs.Declarable.{IsDeclarable, declared_by}
use Rattle.lp_signature.specs.Laws as laws
use Rattle.lp_signature.proofs.PreludeIsFile.{prelude_is_file}
use Rattle.lp_signature.proofs.Constants.{symbol_of, symbol_names_differ, symbol_names_are_new, symbol_names_are_their_own, premise_names_differ, premise_names_are_new, never, same_head}
use Rattle.lp_signature.proofs.SymbolsIn.{EachInTerm, EachIn, type_within, types_within, type_has_symbols, types_have_symbols, form_has_symbols}
use Rattle.lp_signature.proofs.FileTerms.{HasPrelude, IsKnown, IsResult, term_is_term, form_is_term, proofs_is_term, declaration_is_term, context_is_context, under_binders}
use Rattle.lp_signature.proofs.RulePatterns.{side_is_applied, side_occurs}
use Rattle.lp_signature.proofs.Depths.{form_binds, symbol_binds, length_of_map, rule_binds, read_shallow, depths_joined}

-- Lists of names.

not_among : (name x : List ℕ) (xs : List (List ℕ)) → x ≢ name → is_among name xs ≡ false → is_among name (x ∷ xs) ≡ false
not_among name x xs h e = go (bytes_eq x name) refl
  where
    go : (b : Bool) → bytes_eq x name ≡ b → (b || is_among name xs) ≡ false
    go true g = absurd (h ((bytes_eq-Decides x name).0 g))
    go false g = e

among_first : (name : List ℕ) (xs : List (List ℕ)) → is_among name (name ∷ xs) ≡ true
among_first name xs = go (bytes_eq name name) ((bytes_eq-Decides name name).1 refl)
  where
    go : (b : Bool) → b ≡ true → (b || is_among name xs) ≡ true
    go true g = refl
    go false g = absurd (never g)

among_later : (name x : List ℕ) (xs : List (List ℕ)) → is_among name xs ≡ true → is_among name (x ∷ xs) ≡ true
among_later name x xs e = go (bytes_eq x name)
  where
    go : (b : Bool) → (b || is_among name xs) ≡ true
    go true = refl
    go false = e

prelude_later : (x : List ℕ) (xs : List (List ℕ)) → HasPrelude xs → HasPrelude (x ∷ xs)
prelude_later x xs h name e = among_later name x xs (h name e)

nth_taken : (n m : ℕ) (d : Symbol) (ss : List Symbol) → nth (take n ss) m ≡ Some d → (m < n) × (nth ss m ≡ Some d)
nth_taken zero m d ss e = absurd (cc (e))
nth_taken (suc n) m d [] e = absurd (cc (e))
nth_taken (suc n) zero d (s ∷ ss) e = (omega arith, e)
nth_taken (suc n) (suc m) d (s ∷ ss) e = let ih = nth_taken n m d ss e in (omega (arith, ih.0), ih.1)

-- entries after others
in_order_joined : {declared : List (List ℕ)} {es fs : List Entry} → AreEntriesOf declared es → AreEntriesOf (declared_by declared es) fs
    → AreEntriesOf declared (es ++ fs)
in_order_joined file.AreEntriesOf.done g = g
in_order_joined (file.AreEntriesOf.next e h) g = file.AreEntriesOf.next e (in_order_joined h g)

module _ (symbols : List Symbol) where
  -- each symbol's constant is declared
  abbrev AllKnown : List (List ℕ) → Type 0
  AllKnown declared = (c : ℕ) (d : Symbol) → symbol_at symbols c ≡ Some d → IsKnown symbols declared c

  -- Rules.

  module _ (declared : List (List ℕ)) (has : HasPrelude declared) (known : AllKnown declared) where
    abbrev SideHas : Side → Type 0
    SideHas (Side.of_term a) = EachInTerm (IsKnown symbols declared) a
    SideHas (Side.of_form f) = EachIn (IsKnown symbols declared) f

    side_is_term : (k m : ℕ) (x : Side) → k ≤ m → IsClosedSide k x → SideHas x → IsTermOf declared m (side_of symbols x)
    side_is_term k m (Side.of_term a) l h e = term_is_term symbols declared has k m a l h e
    side_is_term k m (Side.of_form f) l h e = form_is_term symbols declared has k m f l h e

    -- the formula whose sides a rule has
    rule_form : (bs : List Binder) (x y : Side) → IsTypedSides symbols bs x y
        → (f : Form) × WellTyped symbols (prenex bs f) × (EachIn (IsKnown symbols declared) f → SideHas x × SideHas y)
    rule_form bs (Side.of_term a) (Side.of_term b) h = (Form.equal h.0 a b, h.1, λ e. (e.1, e.2))
    rule_form bs (Side.of_form f) (Side.of_form g) h = (iff f g, h, λ e. e)
    rule_form bs (Side.of_term a) (Side.of_form g) h = absurd h
    rule_form bs (Side.of_form f) (Side.of_term b) h = absurd h

    rule_is_entry : (r : Rule) → IsSound symbols r → IsEntryOf declared (rule_entry symbols r)
    rule_is_entry r s =
        let x = rule_form r.binders r.left r.right s.typed in
        let has_symbols = form_has_symbols symbols (IsKnown symbols declared) known x.1 in
        let sides = x.2 (under_binders (IsKnown symbols declared) r.binders x.0 has_symbols) in
        let n = length_of_map symbols r.binders in
        file.IsEntryOf.rule
        (context_is_context symbols declared has 0 r.binders x.0 (form_is_closed symbols x.1) has_symbols)
        (side_is_term (length r.binders) _ r.left (omega (arith, n)) s.left_closed sides.0)
        (side_is_term (length r.binders) _ r.right (omega (arith, n)) s.right_closed sides.1)
        (side_is_applied symbols r.left s.pattern)
        (λ i l. side_occurs symbols i r.left s.pattern ∙ s.bound i (omega (arith, n, l)))

    rules_in_order : (rs : List Rule) (rest : List Entry) → ((r : Rule) → Contains rs r → IsSound symbols r) → AreEntriesOf declared rest
        → AreEntriesOf declared (map (rule_entry symbols) rs ++ rest)
    rules_in_order [] rest h g = g
    rules_in_order (r ∷ rs) rest h g =
        file.AreEntriesOf.next (rule_is_entry r (h r (zero, omega arith, refl)))
        (rules_in_order rs rest (λ q c. h q (suc c.0, omega (arith, c.1), c.2)) g)

  -- Premises.

  abbrev EachPremise : List Premise → Type 0
  EachPremise [] = Unit {0}
  EachPremise (p ∷ ps) = IsProblemForm symbols p.form × EachPremise ps

  premises_in_order : (ps : List Premise) (k : ℕ) (declared : List (List ℕ)) → HasPrelude declared → AllKnown declared
      → ((j : ℕ) → k ≤ j → j < 2 ^ 64 → is_among (premise_name j) declared ≡ false) → k + length ps < 2 ^ 64 → EachPremise ps
      → AreEntriesOf declared (premise_entries symbols k ps)
  premises_in_order [] k declared has known fresh few each = file.AreEntriesOf.done
  premises_in_order (p ∷ ps) k declared has known fresh few each =
      let l : k < 2 ^ 64 = omega (arith, few) in
      let new = premise_names_are_new k l in
      file.AreEntriesOf.next
      (file.IsEntryOf.declare
      (record { identifier = new.identifier; no_variable = new.no_variable; first = fresh k (omega arith) l })
      (proofs_is_term symbols declared has p.form (form_is_closed symbols each.0.typed)
      (form_has_symbols symbols (IsKnown symbols declared) known each.0.typed)))
      (premises_in_order ps (suc k) (premise_name k ∷ declared) (prelude_later (premise_name k) declared has)
      (λ c d e. among_later (constant symbols c) (premise_name k) declared (known c d e))
      (λ j i m. not_among (premise_name j) (premise_name k) declared (λ e. omega (arith, premise_names_differ k j l m e, i)) (fresh j (omega (arith, i)) m))
      (omega (arith, few)) each.1)

  -- Symbols.

  -- what is declared after the first n symbols, where these are the others
  record IsAfter (n : ℕ) (ss : List Symbol) (declared : List (List ℕ)) : Type 0 where
    place : (j : ℕ) → nth symbols (n + j) ≡ nth ss j
    has : HasPrelude declared
    known : (m : ℕ) (d : Symbol) → m < n → nth symbols m ≡ Some d → is_among (symbol_name d) declared ≡ true
    fresh : (j : ℕ) (d : Symbol) → nth ss j ≡ Some d → is_among (symbol_name d) declared ≡ false
    premises : (k : ℕ) → is_among (premise_name k) declared ≡ false

  earlier_known : (n : ℕ) (ss : List Symbol) (declared : List (List ℕ)) → IsAfter n ss declared
      → (c : ℕ) (d : Symbol) → symbol_at (take n symbols) c ≡ Some d → IsKnown symbols declared c
  earlier_known n ss declared a zero d e = a.has (codes "iota") refl
  earlier_known n ss declared a (suc m) d e =
      let x = nth_taken n m d symbols e in
      subst (λ o. is_among (name_of o) declared ≡ true) (sym x.1) (a.known m d x.0 x.1)

  all_known : (n : ℕ) (declared : List (List ℕ)) → IsAfter n [] declared → AllKnown declared
  all_known n declared a zero d e = a.has (codes "iota") refl
  all_known n declared a (suc m) d e = subst (λ o. is_among (name_of o) declared ≡ true) (sym e) (a.known m d (within m d e) e)
    where
      within : (m : ℕ) (d : Symbol) → nth symbols m ≡ Some d → m < n
      within m d e = go (nat_lt m n) refl
        where
          go : (b : Bool) → nat_lt m n ≡ b → m < n
          go true g = grind arith
          go false g =
              let i : n ≤ m = grind arith in
              let x : n + (m - n) ≡ m = omega (arith, i) in
              absurd (cc (subst (λ k. nth symbols k ≡ None) x (a.place (m - n)), e))

  module _ (rules : List Rule) (typed : IsSignature symbols) (declarable : All IsDeclarable symbols)
      (differ : (m n : ℕ) (d e : Symbol) → nth symbols m ≡ Some d → nth symbols n ≡ Some e → symbol_name d ≡ symbol_name e → m ≡ n) where
    here : (n : ℕ) (d : Symbol) (ss : List Symbol) (declared : List (List ℕ)) → IsAfter n (d ∷ ss) declared → nth symbols n ≡ Some d
    here n d ss declared a = let e : n + 0 ≡ n = omega arith in subst (λ m. nth symbols m ≡ Some d) e (a.place 0)

    at_place : (n j : ℕ) (d e : Symbol) (ss : List Symbol) (declared : List (List ℕ)) → IsAfter n (d ∷ ss) declared → nth ss j ≡ Some e
        → nth symbols (n + suc j) ≡ Some e
    at_place n j d e ss declared a h = a.place (suc j) ∙ h

    result_of : (before : List Symbol) (declared : List (List ℕ)) (has : HasPrelude declared)
        → ((c : ℕ) (d : Symbol) → symbol_at before c ≡ Some d → IsKnown symbols declared c)
        → (d : Symbol) (r : Sense) → IsSense before d r → IsResult symbols declared has d.types r
    result_of before declared has known d Sense.constructor h = tt
    result_of before declared has known d Sense.predicate h = tt
    result_of before declared has known d (Sense.function r) h =
        (type_within before d.types r h.0, type_has_symbols before (IsKnown symbols declared) known d.types r h.0)

    symbol_is_entry : (n : ℕ) (d : Symbol) (ss : List Symbol) (declared : List (List ℕ)) (definable : Bool) → IsAfter n (d ∷ ss) declared
        → IsEntryOf declared (Entry.declare (symbol_name d) definable (symbol_type symbols d))
    symbol_is_entry n d ss declared definable a =
        let at = here n d ss declared a in
        let new = symbol_names_are_new d (symbol_of IsDeclarable symbols n d declarable at) in
        let h = typed n d at in
        let known = earlier_known n (d ∷ ss) declared a in
        file.IsEntryOf.declare
        (record { identifier = new.identifier; no_variable = new.no_variable; first = a.fresh 0 d refl })
        (declaration_is_term symbols declared a.has d.types d.arguments d.sense
        (types_within (take n symbols) d.types d.arguments h.0)
        (types_have_symbols (take n symbols) (IsKnown symbols declared) known d.types d.arguments h.0)
        (result_of (take n symbols) declared a.has known d d.sense h.2))

    known_next : (n : ℕ) (d : Symbol) (declared : List (List ℕ)) → nth symbols n ≡ Some d
        → ((m : ℕ) (e : Symbol) → m < n → nth symbols m ≡ Some e → is_among (symbol_name e) declared ≡ true)
        → (m : ℕ) (e : Symbol) → m < suc n → nth symbols m ≡ Some e → is_among (symbol_name e) (symbol_name d ∷ declared) ≡ true
    known_next n d declared at known m e l h = go (m == n) refl
      where
        go : (b : Bool) → (m == n) ≡ b → is_among (symbol_name e) (symbol_name d ∷ declared) ≡ true
        go true g =
            let i : m ≡ n = grind arith in
            let x : d ≡ e = cc (at, subst (λ k. nth symbols k ≡ Some e) i h) in
            subst (λ x. is_among (symbol_name x) (symbol_name d ∷ declared) ≡ true) x (among_first (symbol_name d) declared)
        go false g = let i : m < n = grind arith in among_later (symbol_name e) (symbol_name d) declared (known m e i h)

    after_next : (n : ℕ) (d : Symbol) (ss : List Symbol) (declared : List (List ℕ)) → IsAfter n (d ∷ ss) declared
        → IsAfter (suc n) ss (symbol_name d ∷ declared)
    after_next n d ss declared a =
        let at = here n d ss declared a in
        record {
          place = λ j. let e : n + suc j ≡ suc n + j = omega arith in subst (λ m. nth symbols m ≡ nth ss j) e (a.place (suc j));
          has = prelude_later (symbol_name d) declared a.has;
          known = known_next n d declared at a.known;
          fresh = λ j e h. not_among (symbol_name e) (symbol_name d) declared
              (λ x. omega (arith, differ n (n + suc j) d e at (at_place n j d e ss declared a h) x)) (a.fresh (suc j) e h);
          premises = λ k. not_among (premise_name k) (symbol_name d) declared (symbol_names_are_their_own d k).0 (a.premises k);
        }

    symbols_in_order : (ss : List Symbol) (n : ℕ) (declared : List (List ℕ)) (rest : List Entry) → IsAfter n ss declared
        → ((m : ℕ) (names : List (List ℕ)) → IsAfter m [] names → AreEntriesOf names rest)
        → AreEntriesOf declared (symbol_entries symbols rules (suc n) ss ++ rest)
    symbols_in_order [] n declared rest a k = k n declared a
    symbols_in_order (d ∷ ss) n declared rest a k =
        file.AreEntriesOf.next (symbol_is_entry n d ss declared (heads rules (suc n)) a)
        (symbols_in_order ss (suc n) (symbol_name d ∷ declared) rest (after_next n d ss declared a) k)

  -- Depths.

  symbols_bounded : (rules : List Rule) (n : ℕ) (ss : List Symbol) → All IsDeclarable ss → entries_depth (symbol_entries symbols rules n ss) < limit
  symbols_bounded rules n [] h = omega arith
  symbols_bounded rules n (d ∷ ss) h =
      let x = All-head IsDeclarable d ss h in
      omega (arith, symbol_binds symbols d, x.arguments, symbols_bounded rules (suc n) ss (All-tail IsDeclarable d ss h))

  premises_bounded : (k : ℕ) (ps : List Premise) → EachPremise ps → entries_depth (premise_entries symbols k ps) < limit
  premises_bounded k [] h = omega arith
  premises_bounded k (p ∷ ps) h = let x = h.0 in omega (arith, form_binds symbols p.form, x.shallow, premises_bounded (suc k) ps h.1)

  rules_bounded : {n : ℕ} {ps : List Premise} {rs : List Rule} {ks : List (Option ℕ)} → EachPremise ps → Sorts n ps rs ks
      → entries_depth (map (rule_entry symbols) rs) < limit
  rules_bounded each Sorts.done = omega arith
  rules_bounded each (Sorts.rule {p = p} {r = r} h x) =
      let w = each.0 in
      let ih = rules_bounded each.1 x in
      let depth_of = rule_binds symbols _ r (read_shallow symbols p.form h) in
      omega (arith, depth_of, w.shallow, ih)
  rules_bounded each (Sorts.keep h x) = rules_bounded each.1 x

  each_premise : (ps : List Premise) → All (λ p. IsProblemForm symbols p.form) ps → EachPremise ps
  each_premise [] h = tt
  each_premise (p ∷ ps) h =
      (All-head (λ p. IsProblemForm symbols p.form) p ps h, each_premise ps (All-tail (λ p. IsProblemForm symbols p.form) p ps h))

  each_kept : (ps : List Premise) (ks : List (Option ℕ)) → EachPremise ps → EachPremise (kept_of ps ks)
  each_kept [] ks h = tt
  each_kept (p ∷ ps) [] h = tt
  each_kept (p ∷ ps) (None ∷ ks) h = (h.0, each_kept ps ks h.1)
  each_kept (p ∷ ps) (Some k ∷ ks) h = each_kept ps ks h.1

kept_few : (ps : List Premise) (ks : List (Option ℕ)) → length (kept_of ps ks) ≤ length ps
kept_few [] ks = omega arith
kept_few (p ∷ ps) [] = omega arith
kept_few (p ∷ ps) (None ∷ ks) = omega (arith, kept_few ps ks)
kept_few (p ∷ ps) (Some k ∷ ks) = omega (arith, kept_few ps ks)

selected_bounded : (p : Problem) (s : Selection) → All (λ x. IsProblemForm p.symbols x.form) p.premises → IsSelection p s
    → entries_depth (map (rule_entry p.symbols) s.rules) < limit
selected_bounded p s h (inl x) = rules_bounded p.symbols (each_premise p.symbols p.premises h) x
selected_bounded p s h (inr e) = let x = ap (λ s. entries_depth (map (rule_entry p.symbols) s.rules)) e in omega (arith, x)

regrouped : (es fs gs hs : List Entry) → ((es ++ fs) ++ gs) ++ hs ≡ es ++ (fs ++ (gs ++ hs))
regrouped es fs gs hs = append_assoc (es ++ fs) gs hs ∙ append_assoc es fs (gs ++ hs)

after_prelude : (symbols : List Symbol) → All IsDeclarable symbols → IsAfter symbols 0 symbols (declared_by [] prelude)
after_prelude symbols declarable = record {
  place = λ j. let e : 0 + j ≡ j = omega arith in ap (nth symbols) e;
  has = λ name h. h;
  known = λ m d l h. absurd (omega (arith, l));
  fresh = λ j d h. let x = symbol_names_are_new d (symbol_of IsDeclarable symbols j d declarable h) in x.first;
  premises = λ k. refl;
}

pub signatures_are_files : laws.SignaturesAreFiles
signatures_are_files p s typed selects writable =
    let each = each_kept p.symbols p.premises s.rule_of (each_premise p.symbols p.premises typed.premises) in
    let few : 0 + length (kept_premises p s) < 2 ^ 64 = omega (arith, kept_few p.premises s.rule_of, writable.premises) in
    let kept = premise_entries p.symbols 0 (kept_premises p s) in
    let rest : (m : ℕ) (names : List (List ℕ)) → IsAfter p.symbols m [] names → AreEntriesOf names (map (rule_entry p.symbols) s.rules ++ kept) =
    λ m names a.
    rules_in_order p.symbols names a.has (all_known p.symbols m names a) s.rules kept
    (λ r c. selected_rules_are_sound p s r typed selects c)
    (premises_in_order p.symbols (kept_premises p s) 0 names a.has (all_known p.symbols m names a) (λ j l i. a.premises j) few each) in
    let symbols = symbols_in_order p.symbols s.rules typed.signature writable.symbols (λ m n d e x y h. symbol_names_differ p m n d e typed writable x y h)
    p.symbols 0 (declared_by [] prelude) (map (rule_entry p.symbols) s.rules ++ kept) (after_prelude p.symbols writable.symbols) rest in
    let file : IsFile (prelude ++ (symbol_entries p.symbols s.rules 1 p.symbols ++ (map (rule_entry p.symbols) s.rules ++ kept))) = record {
      in_order = in_order_joined prelude_is_file.in_order symbols;
      bounded =
          depths_joined limit prelude _ prelude_is_file.bounded
          (depths_joined limit (symbol_entries p.symbols s.rules 1 p.symbols) _ (symbols_bounded p.symbols s.rules 1 p.symbols writable.symbols)
          (depths_joined limit (map (rule_entry p.symbols) s.rules) _ (selected_bounded p s typed.premises selects)
          (premises_bounded p.symbols 0 (kept_premises p s) each)));
    } in
    subst IsFile (sym (regrouped prelude (symbol_entries p.symbols s.rules 1 p.symbols) (map (rule_entry p.symbols) s.rules) kept)) file

-- The goal's name.

-- the entries don't declare the name
abbrev Spares : List ℕ → List Entry → Type 0
Spares name es = (declared : List (List ℕ)) → is_among name declared ≡ false → is_among name (declared_by declared es) ≡ false

spares_joined : (name : List ℕ) (es fs : List Entry) → Spares name es → Spares name fs → Spares name (es ++ fs)
spares_joined name es fs h g declared e = subst (λ ds. is_among name ds ≡ false) (sym (joined declared es)) (g (declared_by declared es) (h declared e))
  where
    joined : (declared : List (List ℕ)) (es : List Entry) → declared_by declared (es ++ fs) ≡ declared_by (declared_by declared es) fs
    joined declared [] = refl
    joined declared (e ∷ es) = joined (declared_after declared e) es

symbols_spare : (symbols : List Symbol) (rules : List Rule) (n : ℕ) (ss : List Symbol) → Spares (codes "goal") (symbol_entries symbols rules n ss)
symbols_spare symbols rules n [] declared e = e
symbols_spare symbols rules n (d ∷ ss) declared e =
    symbols_spare symbols rules (suc n) ss (symbol_name d ∷ declared)
    (not_among (codes "goal") (symbol_name d) declared (symbol_names_are_their_own d 0).1 e)

rules_spare : (symbols : List Symbol) (rs : List Rule) → Spares (codes "goal") (map (rule_entry symbols) rs)
rules_spare symbols [] declared e = e
rules_spare symbols (r ∷ rs) declared e = rules_spare symbols rs declared e

premise_is_no_goal : (k : ℕ) → premise_name k ≢ codes "goal"
premise_is_no_goal k e = omega (arith, same_head e)

premises_spare : (symbols : List Symbol) (k : ℕ) (ps : List Premise) → Spares (codes "goal") (premise_entries symbols k ps)
premises_spare symbols k [] declared e = e
premises_spare symbols k (p ∷ ps) declared e =
    premises_spare symbols (suc k) ps (premise_name k ∷ declared) (not_among (codes "goal") (premise_name k) declared (premise_is_no_goal k) e)

pub goal_name_is_new : laws.GoalNameIsNew
goal_name_is_new p s =
    let symbols = symbol_entries p.symbols s.rules 1 p.symbols in
    let rules = map (rule_entry p.symbols) s.rules in
    let one = spares_joined (codes "goal") prelude symbols (λ declared e. e) (symbols_spare p.symbols s.rules 1 p.symbols) in
    let two = spares_joined (codes "goal") (prelude ++ symbols) rules one (rules_spare p.symbols s.rules) in
    let three = spares_joined (codes "goal") (prelude ++ symbols ++ rules) (premise_entries p.symbols 0 (kept_premises p s)) two (premises_spare p.symbols 0 (kept_premises p s)) in
    record {
      identifier = names.IsIdentifier.identifier refl refl refl;
      no_variable = refl;
      first = three [] refl;
    }
