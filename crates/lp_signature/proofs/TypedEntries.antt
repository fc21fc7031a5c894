-- The entries that a problem adds to the prelude are well formed: its symbols and its premises.
use Rattle.std.proofs.Common.{◌≡◌, ℕ, ◌+◌, ◌≤◌, max, zero, suc, Bool, true, false, ◌⊎◌, inl, inr, codes, refl, ap, ap₂, sym, ◌∙◌, subst, arith, Some, cond, ◌==◌, List, [], ◌∷◌, ◌++◌, length, take, append_assoc, All}
use Rattle.std.proofs.lemmas.List.{append-nil}
use Rattle.std.proofs.lemmas.List.Elements.{All-head, All-tail}
use Rattle.lp_terms.specs.Term.{Lp, opened, IsClosed}
use Rattle.lp_terms.specs.Term as lp
use Rattle.lp_terms.specs.Signature.{Entry, Holds, Declares, Extends}
use Rattle.lp_terms.specs.Signature as sig
use Rattle.lp_terms.specs.Typing.{Context, Binds, Class, IsSort, Has}
use Rattle.lp_terms.specs.Typing as ty
use Rattle.lp_terms.specs.WellFormed.{IsWellFormedEntry, IsWellFormedAfter, IsWellFormed}
use Rattle.lp_terms.specs.WellFormed as wf
use Rattle.lp_terms.proofs.Substitution.{weaken_bind}
use Rattle.lp_terms.proofs.Binders.{arrow_type}
use Rattle.zm_logic.specs.Tree.{Ty, Tys, Form, Opening, Symbol, Sense, Rule, Premise}
use Rattle.zm_logic.specs.Opening.{open_types}
use Rattle.zm_logic.specs.Parameter.{IsNot, EachInType, EachInTypes}
use Rattle.zm_logic.specs.Index.{IsClosedType}
use Rattle.zm_logic.specs.Typing.{IsType, AreTypes, WellTyped, IsSense, IsDeclaration, IsSignature, nth, symbol_at, individuals}
use Rattle.zm_logic.specs.Problem.{IsProblemForm}
use Rattle.zm_logic.proofs.Each.{IsBelow, each_type, each_types, bound_type, bound_types}
use Rattle.zm_logic.proofs.ClosedForm.{type_is_closed, types_are_closed}
use Rattle.lp_signature.specs.Prelude.{prf, types, prelude, iota_entry}
use Rattle.lp_signature.specs.Names.{symbol_name, name_of, constant, premise_name}
use Rattle.lp_signature.specs.Translation.{Scope, read_type, form_of, over_types, symbol_type}
use Rattle.lp_signature.specs.Problem.{heads, symbol_entries, premise_entries}
use Rattle.lp_signature.specs.Scoped.{Declared}
use Rattle.lp_signature.proofs.Logic as logic
use Rattle.lp_signature.proofs.Logic.{extends_append}
use Rattle.lp_signature.proofs.Trees.{declaration}
use Rattle.lp_signature.proofs.Readings.{read_type_itself}
use Rattle.lp_signature.proofs.SymbolTypes.{InSense, in_sense, open_sense, type_below, types_below, types_opened, sense_opened, result_in, arrows_in, closed_arrows, arrows_closed, arrows_open, arrows_anywhere, arrows_new, over_opened, sense_types, sense_never}
use Rattle.lp_signature.proofs.TypedTrees.{symbols_hold, const_iota, type_typed, fits_none, form_typed}

-- a bound of the numbers in a sense
sense_bound : (r : Sense) → (b : ℕ) × ((n : ℕ) → b ≤ n → InSense (EachInType (IsNot n)) r)
sense_bound Sense.constructor = (0, λ n l. tt)
sense_bound Sense.predicate = (0, λ n l. tt)
sense_bound (Sense.function r) =
    let b = bound_type r in (b.0, λ n l. each_type (IsBelow b.0) (IsNot n) (λ p m e. omega arith) r b.1)

types_bound : (ts : Tys) → (b : ℕ) × ((n : ℕ) → b ≤ n → EachInTypes (IsNot n) ts)
types_bound ts =
    let b = bound_types ts in (b.0, λ n l. each_types (IsBelow b.0) (IsNot n) (λ p m e. omega arith) ts b.1)

-- a symbol's type has the sort Type, where the symbols before it are declared
module _ (sigma : List Entry) (holds : Extends prelude sigma) (symbols before : List Symbol) (declared : Declared sigma symbols before) where
  closed_arrows_has : (g : Context) (s : Scope) → ((n : ℕ) → Has sigma g (read_type s n) (Class.of types))
      → (ts : Tys) (v : Lp) → AreTypes before 0 ts
      → Has sigma g v (Class.of Lp.sort) → Has sigma g (closed_arrows symbols s ts v) (Class.of Lp.sort)
  closed_arrows_has g s reads Tys.none v h p = p
  closed_arrows_has g s reads (Tys.more t ts) v h p =
      arrow_type (logic.term_type sigma (symbols_hold sigma holds) (type_typed sigma holds symbols before declared g s reads t h.0))
      (closed_arrows_has g s reads ts v h.1 p) ty.IsSort.is_type

  result_has : (g : Context) (s : Scope) → ((n : ℕ) → Has sigma g (read_type s n) (Class.of types)) → (r : Sense)
      → InSense (IsType before 0) r
      → Has sigma g (result_in symbols s 0 r) (Class.of Lp.sort)
  result_has g s reads Sense.constructor h = logic.const_type sigma (symbols_hold sigma holds) g
  result_has g s reads Sense.predicate h = logic.const_prop sigma (symbols_hold sigma holds) g
  result_has g s reads (Sense.function r) h =
      logic.term_type sigma (symbols_hold sigma holds) (type_typed sigma holds symbols before declared g s reads r h)

  reads_more : (g : Context) (s : Scope) (n : ℕ) → ((m : ℕ) → Has sigma g (read_type s m) (Class.of types)) → (m : ℕ)
      → Has sigma (Context.bind n types g) (read_type (Scope.of_type n n s) m) (Class.of types)
  reads_more g s n reads m = variable_more (m == n)
    where
      variable_more : (b : Bool)
          → Has sigma (Context.bind n types g) (cond b (Lp.free n) (read_type s m)) (Class.of types)
      variable_more true = ty.Has.variable ty.Binds.here
      variable_more false = weaken_bind n types (reads m)

  -- one type variable more is read by the scope
  opened_over : (k n : ℕ) (s : Scope) (ts : Tys) (r : Sense) → AreTypes before (suc k) ts
      → InSense (IsType before (suc k)) r
      → EachInTypes (IsNot n) ts → InSense (EachInType (IsNot n)) r
      → over_types symbols k (arrows_in symbols (Scope.of_type n n s) 0 (open_types k (Opening.of_type (Ty.param n)) ts) (open_sense k (Opening.of_type (Ty.param n)) r))
      ≡ opened (over_types symbols k (arrows_in symbols s 0 ts r)) (Lp.free n)
  opened_over k n s ts r a b c d =
      ap (over_types symbols k)
      (arrows_open symbols (Scope.of_type n n s) 0 k (Ty.param n) ts r tt
      (types_below before k (open_types k (Opening.of_type (Ty.param n)) ts) (types_opened before k (Ty.param n) tt ts a))
      (in_sense (IsType before k) (IsClosedType k) (type_below before k) (open_sense k (Opening.of_type (Ty.param n)) r) (sense_opened before k (Ty.param n) tt r b))
      ∙ ap₂ (λ u v. lp.open_at k u v) (read_type_itself symbols s n n) (arrows_new symbols n n s 0 ts r c d))
      ∙ sym (over_opened symbols k (Lp.free n) (arrows_in symbols s 0 ts r))

  over_types_has : (k : ℕ) (g : Context) (s : Scope) → ((n : ℕ) → Has sigma g (read_type s n) (Class.of types))
      → (ts : Tys) (r : Sense)
      → AreTypes before k ts → InSense (IsType before k) r
      → Has sigma g (over_types symbols k (arrows_in symbols s 0 ts r)) (Class.of Lp.sort)
  over_types_has zero g s reads ts r a b =
      subst (λ w. Has sigma g w (Class.of Lp.sort))
      (sym (arrows_closed symbols s 0 ts r (types_are_closed before ts a) (in_sense (IsType before 0) (IsClosedType 0) (type_is_closed before) r b)))
      (closed_arrows_has g s reads ts (result_in symbols s 0 r) a (result_has g s reads r b))
  over_types_has (suc k) g s reads ts r a b =
      let x = types_bound ts in
      let y = sense_bound r in
      ty.Has.product (max x.0 y.0) (logic.const_type sigma (symbols_hold sigma holds) g)
      (λ n le. subst (λ w. Has sigma (Context.bind n types g) w (Class.of Lp.sort)) (opened_over k n s ts r a b (x.1 n (omega arith)) (y.1 n (omega arith)))
      (over_types_has k (Context.bind n types g) (Scope.of_type n n s) (reads_more g s n reads)
      (open_types k (Opening.of_type (Ty.param n)) ts) (open_sense k (Opening.of_type (Ty.param n)) r)
      (types_opened before k (Ty.param n) tt ts a) (sense_opened before k (Ty.param n) tt r b)))
      ty.IsSort.is_type

  -- a declaration after those of the symbols before it
  pub symbol_entry : (name : List ℕ) (definable : Bool) (d : Symbol) → IsDeclaration before d
      → IsWellFormedEntry sigma (Entry.declare name definable (symbol_type symbols d))
  symbol_entry name definable d w =
      wf.IsWellFormedEntry.declare
      (subst (λ v. Has sigma Context.empty (over_types symbols d.types v) (Class.of Lp.sort))
      (sym (arrows_anywhere symbols Scope.none 0 d.arguments d.sense w.1 (sense_never before d d.sense w.2)))
      (over_types_has d.types Context.empty Scope.none (λ n. const_iota sigma holds Context.empty) d.arguments d.sense w.0 (sense_types before d d.sense w.2)))
      ty.IsSort.is_type

-- a premise
pub premise_entry : (sigma : List Entry) (holds : Extends prelude sigma) (symbols : List Symbol) → IsSignature symbols
    → Declared sigma symbols symbols
    → (name : List ℕ) (f : Form) → WellTyped symbols f
    → IsWellFormedEntry sigma (Entry.declare name false (prf (form_of symbols Scope.none f)))
premise_entry sigma holds symbols good declared name f w =
    wf.IsWellFormedEntry.declare
    (logic.prf_type sigma (symbols_hold sigma holds)
    (form_typed sigma holds symbols good declared Context.empty Scope.none (fits_none sigma holds symbols good declared Context.empty) w))
    ty.IsSort.is_type

declares_more : {sigma : List Entry} {name : List ℕ} {type : Lp} (tau : List Entry) → Extends sigma tau
    → Declares sigma name type → Declares tau name type
declares_more tau w (sig.Declares.declared h) = sig.Declares.declared (w _ h)
declares_more tau w (sig.Declares.defined h) = sig.Declares.defined (w _ h)

-- lists of entries
pub after_append : (sigma xs ys : List Entry) → IsWellFormedAfter sigma xs → IsWellFormedAfter (sigma ++ xs) ys
    → IsWellFormedAfter sigma (xs ++ ys)
after_append sigma [] ys h k = subst (λ z. IsWellFormedAfter z ys) (append-nil sigma) k
after_append sigma (e ∷ xs) ys h k =
    (h.0, after_append (sigma ++ (e ∷ [])) xs ys h.1 (subst (λ z. IsWellFormedAfter z ys) (sym (append_assoc sigma (e ∷ []) xs)) k))

holds_last : (es : List Entry) (e : Entry) → Holds (es ++ (e ∷ [])) e
holds_last [] e = sig.Holds.first
holds_last (d ∷ es) e = sig.Holds.later (holds_last es e)

pub extends_more : {sigma : List Entry} (es : List Entry) (e : Entry) → Extends sigma es
    → Extends sigma (es ++ (e ∷ []))
extends_more es e h x i = extends_append es (e ∷ []) x (h x i)

-- the symbols of a list, and the last one
nth_after : (xs : List Symbol) (d : Symbol) (ys : List Symbol) → nth (xs ++ (d ∷ ys)) (length xs) ≡ Some d
nth_after [] d ys = refl
nth_after (x ∷ xs) d ys = nth_after xs d ys

take_front : (xs ys : List Symbol) → take (length xs) (xs ++ ys) ≡ xs
take_front [] ys = take_none ys
  where
    take_none : (ys : List Symbol) → take 0 ys ≡ []
    take_none [] = refl
    take_none (y ∷ ys) = refl
take_front (x ∷ xs) ys = ap (λ zs. x ∷ zs) (take_front xs ys)

nth_front : (xs ys : List Symbol) (m : ℕ) (x : Symbol) → nth xs m ≡ Some x → nth (xs ++ ys) m ≡ Some x
nth_front [] ys m x e = absurd (cc)
nth_front (z ∷ xs) ys zero x e = e
nth_front (z ∷ xs) ys (suc m) x e = nth_front xs ys m x e

symbol_front : (xs ys : List Symbol) (c : ℕ) (x : Symbol) → symbol_at xs c ≡ Some x → symbol_at (xs ++ ys) c ≡ Some x
symbol_front xs ys zero x e = e
symbol_front xs ys (suc m) x e = nth_front xs ys m x e

nth_last : (xs : List Symbol) (d : Symbol) (m : ℕ) (x : Symbol) → nth (xs ++ (d ∷ [])) m ≡ Some x
    → (nth xs m ≡ Some x) ⊎ ((m ≡ length xs) × (d ≡ x))
nth_last [] d zero x e = inr (refl, cc)
nth_last [] d (suc m) x e = absurd (cc)
nth_last (z ∷ xs) d zero x e = inl e
nth_last (z ∷ xs) d (suc m) x e =
    elim (nth_last xs d m x e) [
      | inl h ↦ inl h
      | inr h ↦ inr (ap suc h.0, h.1)
    ]

-- constructors take types alone
constructor_takes_types : (symbols : List Symbol) → IsSignature symbols → (c : ℕ) (d : Symbol)
    → symbol_at symbols c ≡ Some d → d.sense ≡ Sense.constructor
    → d.arguments ≡ Tys.none
constructor_takes_types symbols good c d e h = subst (IsSense symbols d) h (declaration symbols good c d e).2

iota_holds : (sigma : List Entry) → Extends prelude sigma → Holds sigma iota_entry
iota_holds sigma holds =
    symbols_hold sigma holds _ (sig.Holds.later (sig.Holds.later (sig.Holds.later (sig.Holds.later sig.Holds.first))))

iota_declared : (sigma : List Entry) → Extends prelude sigma → (symbols : List Symbol) (d : Symbol)
    → Some individuals ≡ Some d
    → Declares sigma (codes "iota") (symbol_type symbols d)
iota_declared sigma holds symbols d e =
    let same : individuals ≡ d = cc in
    subst (λ x. Declares sigma (codes "iota") (symbol_type symbols x)) same (sig.Declares.declared (iota_holds sigma holds))

module _ (symbols : List Symbol) (good : IsSignature symbols) (rules : List Rule) where
  -- the entry of a symbol
  pub entry_held : (n : ℕ) (ds : List Symbol) (m : ℕ) (d : Symbol) → nth ds m ≡ Some d
      → Holds (symbol_entries symbols rules n ds) (Entry.declare (symbol_name d) (heads rules (n + m)) (symbol_type symbols d))
  entry_held n [] m d e = absurd (cc)
  entry_held n (x ∷ ds) zero d e =
      let same : x ≡ d = cc in
      subst (λ (k : ℕ). Holds (symbol_entries symbols rules n (x ∷ ds)) (Entry.declare (symbol_name d) (heads rules k) (symbol_type symbols d))) (let z : n ≡ n + 0 = omega arith in z)
      (subst (λ y. Holds (symbol_entries symbols rules n (x ∷ ds)) (Entry.declare (symbol_name y) (heads rules n) (symbol_type symbols y))) same sig.Holds.first)
  entry_held n (x ∷ ds) (suc m) d e =
      subst (λ (k : ℕ). Holds (symbol_entries symbols rules n (x ∷ ds)) (Entry.declare (symbol_name d) (heads rules k) (symbol_type symbols d))) (let z : suc n + m ≡ n + suc m = omega arith in z)
      (sig.Holds.later (entry_held (suc n) ds m d e))

  -- a signature with the prelude and the symbols' entries declares the symbols
  pub declared_by : (sigma : List Entry) → Extends prelude sigma
      → Extends (symbol_entries symbols rules 1 symbols) sigma → Declared sigma symbols symbols
  declared_by sigma holds held = record { constants = constants; constructors = constructor_takes_types symbols good }
    where
      constants : (c : ℕ) (d : Symbol) → symbol_at symbols c ≡ Some d
          → Declares sigma (constant symbols c) (symbol_type symbols d)
      constants zero d e = iota_declared sigma holds symbols d e
      constants (suc m) d e =
          subst (λ name. Declares sigma name (symbol_type symbols d)) (sym (ap name_of e)) (sig.Declares.declared (held _ (entry_held 1 symbols m d e)))

  none_declared : (sigma : List Entry) → Extends prelude sigma → Declared sigma symbols []
  none_declared sigma holds = record { constants = constants; constructors = constructors }
    where
      constants : (c : ℕ) (d : Symbol) → symbol_at [] c ≡ Some d
          → Declares sigma (constant symbols c) (symbol_type symbols d)
      constants zero d e = iota_declared sigma holds symbols d e
      constants (suc m) d e = absurd (cc)

      constructors : (c : ℕ) (d : Symbol) → symbol_at [] c ≡ Some d → d.sense ≡ Sense.constructor
          → d.arguments ≡ Tys.none
      constructors zero d e h = constructor_takes_types symbols good zero d e h
      constructors (suc m) d e h = absurd (cc)

  -- one symbol more
  one_declared : (sigma : List Entry) (definable : Bool) (before : List Symbol) (d : Symbol) (rest : List Symbol)
      → before ++ (d ∷ rest) ≡ symbols
      → Declared sigma symbols before
      → Declared (sigma ++ (Entry.declare (symbol_name d) definable (symbol_type symbols d) ∷ [])) symbols (before ++ (d ∷ []))
  one_declared sigma definable before d rest e declared = record { constants = constants; constructors = constructors }
    where
      tau : List Entry
      tau = sigma ++ (Entry.declare (symbol_name d) definable (symbol_type symbols d) ∷ [])

      constants : (c : ℕ) (x : Symbol) → symbol_at (before ++ (d ∷ [])) c ≡ Some x
          → Declares tau (constant symbols c) (symbol_type symbols x)
      constants zero x h = declares_more tau (extends_append sigma _) (declared.constants zero x h)
      constants (suc m) x h =
          elim (nth_last before d m x h) [
            | inl k ↦ declares_more tau (extends_append sigma _) (declared.constants (suc m) x k)
            | inr k ↦
                let found : nth symbols m ≡ Some x = ap (nth symbols) k.0 ∙ subst (λ ys. nth ys (length before) ≡ Some d) e (nth_after before d rest) ∙ ap Some k.1 in
                subst (λ name. Declares tau name (symbol_type symbols x)) (sym (ap name_of found))
                (subst (λ y. Declares tau (symbol_name y) (symbol_type symbols y)) k.1 (sig.Declares.declared (holds_last sigma _)))
          ]

      constructors : (c : ℕ) (x : Symbol) → symbol_at (before ++ (d ∷ [])) c ≡ Some x → x.sense ≡ Sense.constructor
          → x.arguments ≡ Tys.none
      constructors c x h k =
          constructor_takes_types symbols good c x
          (subst (λ ys. symbol_at ys c ≡ Some x) (append_assoc before (d ∷ []) rest ∙ e) (symbol_front (before ++ (d ∷ [])) rest c x h)) k

  -- the entries of the symbols, after those of the symbols before them
  pub symbols_after : (rest before : List Symbol) (sigma : List Entry) (n : ℕ) → Extends prelude sigma
      → Declared sigma symbols before
      → before ++ rest ≡ symbols → IsWellFormedAfter sigma (symbol_entries symbols rules n rest)
  symbols_after [] before sigma n holds declared e = tt
  symbols_after (d ∷ rest) before sigma n holds declared e =
      let found : nth symbols (length before) ≡ Some d = subst (λ ys. nth ys (length before) ≡ Some d) e (nth_after before d rest) in
      let front : take (length before) symbols ≡ before = subst (λ ys. take (length before) ys ≡ before) e (take_front before (d ∷ rest)) in
      let w : IsDeclaration before d = subst (λ b. IsDeclaration b d) front (good (length before) d found) in (
        symbol_entry sigma holds symbols before declared (symbol_name d) (heads rules n) d w,
        symbols_after rest (before ++ (d ∷ [])) (sigma ++ (Entry.declare (symbol_name d) (heads rules n) (symbol_type symbols d) ∷ [])) (suc n)
            (extends_more sigma _ holds) (one_declared sigma (heads rules n) before d rest e declared) (append_assoc before (d ∷ []) rest ∙ e),
      )

  pub symbol_entries_after : (sigma : List Entry) → Extends prelude sigma
      → IsWellFormedAfter sigma (symbol_entries symbols rules 1 symbols)
  symbol_entries_after sigma holds = symbols_after symbols [] sigma 1 holds (none_declared sigma holds) refl

  -- the entries of the premises
  pub premises_after : (ps : List Premise) (sigma : List Entry) (k : ℕ) → Extends prelude sigma
      → Extends (symbol_entries symbols rules 1 symbols) sigma
      → All (λ p. IsProblemForm symbols p.form) ps → IsWellFormedAfter sigma (premise_entries symbols k ps)
  premises_after [] sigma k holds held a = tt
  premises_after (p ∷ ps) sigma k holds held a = (
    premise_entry sigma holds symbols good (declared_by sigma holds held) (premise_name k) p.form (All-head (λ p. IsProblemForm symbols p.form) p ps a).typed,
    premises_after ps (sigma ++ (Entry.declare (premise_name k) false (prf (form_of symbols Scope.none p.form)) ∷ [])) (suc k)
        (extends_more sigma _ holds) (extends_more sigma _ held) (All-tail (λ p. IsProblemForm symbols p.form) p ps a),
  )
