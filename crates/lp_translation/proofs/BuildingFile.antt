-- A signature with a typed definition at its end has the entries of a file.
use Rattle.std.proofs.Common.{ℕ, suc, ◌≡◌, ◌<◌, Bool, true, ◌||◌, List, [], ◌∷◌, ◌++◌, refl, ap, sym, subst, arith, rules, append-nil, append_assoc}
use Rattle.std.specs.Str.{bytes_eq}
use Rattle.std.proofs.lemmas.Bool.{or_right}
use Rattle.lp_terms.specs.Term.{Lp, open_at, IsClosedAt, IsFresh}
use Rattle.lp_terms.specs.Signature.{Entry, Holds, Declares}
use Rattle.lp_terms.specs.Typing.{Context, Class, Has}
use Rattle.lp_terms.specs.Names.{is_among}
use Rattle.lp_terms.specs.Measure.{binder_depth, entry_depth, entries_depth, limit}
use Rattle.lp_terms.specs.File.{declared_after, IsNewName, IsTermOf, IsEntryOf, AreEntriesOf, IsFile}
use Rattle.lp_terms.specs.WellFormed.{IsWellFormedEntry, IsWellFormedAfter, IsWellFormed}
use Rattle.lp_terms.proofs.Promises.{typed_terms_are_closed, typed_terms_hold_their_context}
use Rattle.lp_signature.specs.Declarable.{declared_by}

-- each constant is one of the names
abbrev pub IsKnown : List (List ℕ) → Lp → Type 0
IsKnown names Lp.sort = Unit {0}
IsKnown names (Lp.const name) = is_among name names ≡ true
IsKnown names (Lp.free n) = Unit {0}
IsKnown names (Lp.index i) = Unit {0}
IsKnown names (Lp.app f a) = IsKnown names f × IsKnown names a
IsKnown names (Lp.abs a b) = IsKnown names a × IsKnown names b
IsKnown names (Lp.prod a b) = IsKnown names a × IsKnown names b

module _ (names : List (List ℕ)) where
  known_opened : (t : Lp) (k n : ℕ) → IsKnown names (open_at k (Lp.free n) t) → IsKnown names t
  known_opened Lp.sort k n h = tt
  known_opened (Lp.const name) k n h = h
  known_opened (Lp.free m) k n h = tt
  known_opened (Lp.index i) k n h = tt
  known_opened (Lp.app f a) k n h = (known_opened f k n h.0, known_opened a k n h.1)
  known_opened (Lp.abs a b) k n h = (known_opened a k n h.0, known_opened b (suc k) n h.1)
  known_opened (Lp.prod a b) k n h = (known_opened a k n h.0, known_opened b (suc k) n h.1)

  -- a typed term has only constants that the signature declares
  known_typed : {sigma : List Entry} → ((name : List ℕ) (type : Lp) → Declares sigma name type → is_among name names ≡ true)
      → {g : Context} {t : Lp} {c : Class} → Has sigma g t c → IsKnown names t
  known_typed all Has.sort = tt
  known_typed all (Has.constant {name = name} {type = type} d) = all name type d
  known_typed all (Has.variable b) = tt
  known_typed all (Has.product {codomain = b} bound h k s) = (known_typed all h, known_opened b 0 bound (known_typed all (k bound (omega arith))))
  known_typed all (Has.abstraction {body = b} bound k p s) = ((known_typed all p).0, known_opened b 0 bound (known_typed all (k bound (omega arith))))
  known_typed all (Has.application f a) = (known_typed all f, known_typed all a)
  known_typed all (Has.conversion h e k s) = known_typed all h

  fresh_free : (n : ℕ) → IsFresh n (Lp.free n) → ⊥
  fresh_free n (IsFresh.free d) = d refl

  fresh_function : {x : ℕ} {f a : Lp} → IsFresh x (Lp.app f a) → IsFresh x f
  fresh_function (IsFresh.app p q) = p

  fresh_argument : {x : ℕ} {f a : Lp} → IsFresh x (Lp.app f a) → IsFresh x a
  fresh_argument (IsFresh.app p q) = q

  fresh_domain : {x : ℕ} {a b : Lp} → IsFresh x (Lp.abs a b) → IsFresh x a
  fresh_domain (IsFresh.abs p q) = p

  fresh_body : {x : ℕ} {a b : Lp} → IsFresh x (Lp.abs a b) → IsFresh x b
  fresh_body (IsFresh.abs p q) = q

  fresh_source : {x : ℕ} {a b : Lp} → IsFresh x (Lp.prod a b) → IsFresh x a
  fresh_source (IsFresh.prod p q) = p

  fresh_target : {x : ℕ} {a b : Lp} → IsFresh x (Lp.prod a b) → IsFresh x b
  fresh_target (IsFresh.prod p q) = q

  -- a closed term of known constants without free variables is a file's
  known_term : (t : Lp) {k : ℕ} → IsKnown names t → IsClosedAt k t → ((x : ℕ) → IsFresh x t) → IsTermOf names k t
  known_term _ h IsClosedAt.sort f = IsTermOf.sort
  known_term _ h IsClosedAt.const f = IsTermOf.const h
  known_term _ h (IsClosedAt.free {n = n}) f = absurd (fresh_free n (f n))
  known_term _ h (IsClosedAt.index l) f = IsTermOf.index l
  known_term _ h (IsClosedAt.app {f = g} {a = a} c d) f =
      IsTermOf.app (known_term g h.0 c (λ x. fresh_function (f x))) (known_term a h.1 d (λ x. fresh_argument (f x)))
  known_term _ h (IsClosedAt.abs {a = a} {b = b} c d) f =
      IsTermOf.abs (known_term a h.0 c (λ x. fresh_domain (f x))) (known_term b h.1 d (λ x. fresh_body (f x)))
  known_term _ h (IsClosedAt.prod {a = a} {b = b} c d) f =
      IsTermOf.prod (known_term a h.0 c (λ x. fresh_source (f x))) (known_term b h.1 d (λ x. fresh_target (f x)))

-- a name stays declared
kept_after : (name : List ℕ) (names : List (List ℕ)) (e : Entry) → is_among name names ≡ true → is_among name (declared_after names e) ≡ true
kept_after name names (Entry.declare x d t) h = or_right (bytes_eq x name) (is_among name names) h
kept_after name names (Entry.define x t b) h = or_right (bytes_eq x name) (is_among name names) h
kept_after name names (Entry.rule c l r) h = h

kept_by : (name : List ℕ) (names : List (List ℕ)) (es : List Entry) → is_among name names ≡ true → is_among name (declared_by names es) ≡ true
kept_by name names [] h = h
kept_by name names (e ∷ es) h = kept_by name (declared_after names e) es (kept_after name names e h)

bytes_same : (xs : List ℕ) → bytes_eq xs xs ≡ true
bytes_same xs = search rules

among_first : (name : List ℕ) (names : List (List ℕ)) → is_among name (name ∷ names) ≡ true
among_first name names = ap (λ b. b || is_among name names) (bytes_same name)

held_declared : (name : List ℕ) (type : Lp) (d : Bool) (names : List (List ℕ)) (es : List Entry) → Holds es (Entry.declare name d type)
    → is_among name (declared_by names es) ≡ true
held_declared name type d names [] h = elim h [ ]
held_declared name type d names (_ ∷ es) Holds.first = kept_by name (name ∷ names) es (among_first name names)
held_declared name type d names (e ∷ es) (Holds.later h) = held_declared name type d (declared_after names e) es h

held_defined : (name : List ℕ) (type body : Lp) (names : List (List ℕ)) (es : List Entry) → Holds es (Entry.define name type body)
    → is_among name (declared_by names es) ≡ true
held_defined name type body names [] h = elim h [ ]
held_defined name type body names (_ ∷ es) Holds.first = kept_by name (name ∷ names) es (among_first name names)
held_defined name type body names (e ∷ es) (Holds.later h) = held_defined name type body (declared_after names e) es h

declares_among : (sigma : List Entry) (name : List ℕ) (type : Lp) → Declares sigma name type → is_among name (declared_by [] sigma) ≡ true
declares_among sigma name type (Declares.declared {definable = d} h) = held_declared name type d [] sigma h
declares_among sigma name type (Declares.defined {body = b} h) = held_defined name type b [] sigma h

-- a term that is typed in the empty context is a file's
pub typed_is_term : (sigma : List Entry) (t : Lp) (c : Class) → Has sigma Context.empty t c → IsTermOf (declared_by [] sigma) 0 t
typed_is_term sigma t c h =
    known_term (declared_by [] sigma) t (known_typed (declared_by [] sigma) (declares_among sigma) h)
    (typed_terms_are_closed sigma Context.empty t c h) (λ x. typed_terms_hold_their_context sigma Context.empty t c x tt h)

-- the last entry is well formed after the others
last_well_formed : (sigma es : List Entry) (e : Entry) → IsWellFormedAfter sigma (es ++ e ∷ []) → IsWellFormedEntry (sigma ++ es) e
last_well_formed sigma [] e w = subst (λ (tau : List Entry). IsWellFormedEntry tau e) (sym (append-nil sigma)) w.0
last_well_formed sigma (d ∷ es) e w =
    subst (λ (tau : List Entry). IsWellFormedEntry tau e) (append_assoc sigma (d ∷ []) es) (last_well_formed (sigma ++ d ∷ []) es e w.1)

entries_push : (names : List (List ℕ)) (es : List Entry) (e : Entry) → AreEntriesOf names es → IsEntryOf (declared_by names es) e
    → AreEntriesOf names (es ++ e ∷ [])
entries_push names [] e a i = AreEntriesOf.next i AreEntriesOf.done
entries_push names (d ∷ es) e (AreEntriesOf.next j a) i = AreEntriesOf.next j (entries_push (declared_after names d) es e a i)

depth_push : (es : List Entry) (e : Entry) (n : ℕ) → entries_depth es < n → entry_depth e < n → entries_depth (es ++ e ∷ []) < n
depth_push [] e n a b = omega (arith, a, b)
depth_push (d ∷ es) e n a b = let more = depth_push es e n (omega (arith, a)) b in omega (arith, more, a)

definition_is_entry : (sigma : List Entry) (name : List ℕ) (type body : Lp) → IsWellFormedEntry sigma (Entry.define name type body)
    → IsNewName (declared_by [] sigma) name → IsEntryOf (declared_by [] sigma) (Entry.define name type body)
definition_is_entry sigma name type body (IsWellFormedEntry.define {s = s} t i b) n =
    IsEntryOf.define n (typed_is_term sigma type s t) (typed_is_term sigma body (Class.of type) b)

-- a signature that is a file's, with a definition at its end
pub with_definition : (sigma : List Entry) (name : List ℕ) (type body : Lp) → IsFile sigma → IsWellFormed (sigma ++ Entry.define name type body ∷ [])
    → IsNewName (declared_by [] sigma) name → binder_depth type < limit → binder_depth body < limit
    → IsFile (sigma ++ Entry.define name type body ∷ [])
with_definition sigma name type body f w n t b = record {
  in_order = entries_push [] sigma _ f.in_order (definition_is_entry sigma name type body (last_well_formed [] sigma _ w) n);
  bounded = depth_push sigma _ limit f.bounded (omega (arith, t, b));
}
