-- Parameters for the binders of a rule, numbered by place, beside the parts that are put for them.
use Rattle.std.proofs.Common.{ℕ, ◌≡◌, ◌<◌, ◌==◌, suc, Bool, true, false, if◌then◌else◌, refl, ap, ◌∙◌, arith, List, [], ◌∷◌, map, length}
use Rattle.std.proofs.lemmas.Bool.{ne_eqb}
use Rattle.zm_logic.specs.Tree.{Ty, Term, Opening, Symbol}
use Rattle.zm_logic.specs.Opening.{type_at, term_at, open_type, open_term, type_instance}
use Rattle.zm_logic.specs.Index.{IsClosedType, IsClosedTerm}
use Rattle.zm_logic.specs.Typing.{IsType}
use Rattle.zm_logic.proofs.Opened.{itself}
use Rattle.zm_logic.proofs.Substitution.{Substitution, sub_type, sub_opening, Closed}
use Rattle.rule_select.proofs.Instances.{term_instance, open_closed_type, open_closed_term, type_instance_closed, term_instance_closed, type_instance_past, term_instance_past}

-- the part of an index
pub data Entry : List Opening → ℕ → Opening → Type 0 where
  here : {o : Opening} {os : List Opening} → Entry (o ∷ os) (length os) o
  there : {o p : Opening} {os : List Opening} {i : ℕ} → Entry os i o → Entry (p ∷ os) i o

-- parameters numbered by their place, beside parts of the same kinds: neither has a loose index
pub data Beside (symbols : List Symbol) : List Opening → List Opening → Type 0 where
  none : Beside symbols [] []
  a_type : {u : Ty} {es os : List Opening} → IsClosedType 0 u → Beside symbols es os
      → Beside symbols (Opening.of_type (Ty.param (length os)) ∷ es) (Opening.of_type u ∷ os)
  a_term : {u : Term} {t : Ty} {es os : List Opening} → IsClosedTerm 0 u → IsType symbols 0 t → Beside symbols es os
      → Beside symbols (Opening.of_term (Term.eps (length os) t) ∷ es) (Opening.of_term u ∷ os)

pub same_length : (symbols : List Symbol) {es os : List Opening} → Beside symbols es os → length es ≡ length os
same_length symbols Beside.none = refl
same_length symbols (Beside.a_type h b) = ap suc (same_length symbols b)
same_length symbols (Beside.a_term h t b) = ap suc (same_length symbols b)

-- each part for the parameter of its place
abbrev pub type_put : List Opening → ℕ → Ty
type_put [] n = Ty.param n
type_put (Opening.of_type u ∷ os) n = if n == length os then u else type_put os n
type_put (Opening.of_term u ∷ os) n = type_put os n

abbrev pub term_put : List Opening → ℕ → Ty → Term
term_put [] n t = Term.eps n t
term_put (Opening.of_type u ∷ os) n t = term_put os n t
term_put (Opening.of_term u ∷ os) n t = if n == length os then u else term_put os n t

abbrev pub put : List Opening → Substitution
put os = record { types = type_put os; terms = term_put os }

pub put_closed_type : (symbols : List Symbol) {es os : List Opening} → Beside symbols es os → (n k : ℕ) (o : Opening) → open_type k o (type_put os n) ≡ type_put os n
put_closed_type symbols Beside.none n k o = refl
put_closed_type symbols (Beside.a_type {u = u} {os = os} h b) n k o = go (n == length os) (put_closed_type symbols b n k o)
  where
    go : (x : Bool) → open_type k o (type_put os n) ≡ type_put os n
        → open_type k o (if x then u else type_put os n) ≡ (if x then u else type_put os n)
    go true e = open_closed_type 0 k o u h (omega arith)
    go false e = e
put_closed_type symbols (Beside.a_term h t b) n k o = put_closed_type symbols b n k o

pub put_closed_term : (symbols : List Symbol) {es os : List Opening} → Beside symbols es os → (n : ℕ) (t : Ty) (k : ℕ) (o : Opening)
    → open_term k o (term_put os n t) ≡ term_put os n (open_type k o t)
put_closed_term symbols Beside.none n t k o = refl
put_closed_term symbols (Beside.a_type h b) n t k o = put_closed_term symbols b n t k o
put_closed_term symbols (Beside.a_term {u = u} {os = os} h s b) n t k o = go (n == length os) (put_closed_term symbols b n t k o)
  where
    go : (x : Bool) → open_term k o (term_put os n t) ≡ term_put os n (open_type k o t)
        → open_term k o (if x then u else term_put os n t) ≡ (if x then u else term_put os n (open_type k o t))
    go true e = open_closed_term 0 k o u h (omega arith)
    go false e = e

pub put_closed : (symbols : List Symbol) {es os : List Opening} → Beside symbols es os → Closed (put os)
put_closed symbols b = record { types = put_closed_type symbols b; terms = put_closed_term symbols b }

-- a substitution that puts what `put os` puts at the places of os makes os of the parameters
pub put_each : (symbols : List Symbol) (s : Substitution) {es os : List Opening} → Beside symbols es os
    → ((n : ℕ) → n < length os → (s.types n ≡ type_put os n) × ((t : Ty) → s.terms n t ≡ term_put os n t))
    → map (sub_opening s) es ≡ os
put_each symbols s Beside.none w = refl
put_each symbols s (Beside.a_type {u = u} {es = es} {os = os} h b) w =
    let rest : map (sub_opening s) es ≡ os = put_each symbols s b (λ n l. let e : (n == length os) ≡ false = ne_eqb n (length os) (λ x. omega arith) in
    ((w n (omega arith)).0 ∙ rw e, (w n (omega arith)).1)) in
    let first : s.types (length os) ≡ u = (w (length os) (omega arith)).0 ∙ rw (itself (length os)) in
    cc
put_each symbols s (Beside.a_term {u = u} {t = t} {es = es} {os = os} h i b) w =
    let rest : map (sub_opening s) es ≡ os = put_each symbols s b (λ n l. let e : (n == length os) ≡ false = ne_eqb n (length os) (λ x. omega arith) in
    ((w n (omega arith)).0, λ v. (w n (omega arith)).1 v ∙ rw e)) in
    let first : s.terms (length os) (sub_type s.types t) ≡ u = (w (length os) (omega arith)).1 (sub_type s.types t) ∙ rw (itself (length os)) in
    cc

pub parts_put : (symbols : List Symbol) {es os : List Opening} → Beside symbols es os → map (sub_opening (put os)) es ≡ os
parts_put symbols {es} {os} b = put_each symbols (put os) b (λ n l. (refl, λ t. refl))

-- what an index is in an instance
pub entry_below : {es : List Opening} {i : ℕ} {o : Opening} → Entry es i o → i < length es
entry_below Entry.here = omega arith
entry_below (Entry.there {os = os} {i = i} e) = let l : i < length os = entry_below e in omega arith

abbrev pub IsClosedOpening : Opening → Type 0
IsClosedOpening (Opening.of_type t) = IsClosedType 0 t
IsClosedOpening (Opening.of_term u) = IsClosedTerm 0 u

abbrev pub AreClosedOpenings : List Opening → Type 0
AreClosedOpenings [] = Unit {0}
AreClosedOpenings (o ∷ os) = IsClosedOpening o × AreClosedOpenings os

pub entry_type : {es : List Opening} {i : ℕ} {o : Opening} → AreClosedOpenings es → Entry es i o → type_instance es (Ty.bound i) ≡ type_at i o i
entry_type c (Entry.here {o = o} {os = os}) = go o c.0
  where
    go : (o : Opening) → IsClosedOpening o → type_instance os (type_at (length os) o (length os)) ≡ type_at (length os) o (length os)
    go (Opening.of_type t) h = rw (itself (length os)) (type_instance_closed os t h)
    go (Opening.of_term u) h = type_instance_past os (length os) (omega arith)
entry_type c (Entry.there {p = p} {os = os} {i = i} e) = ap (type_instance os) (go p) ∙ entry_type c.1 e
  where
    go : (p : Opening) → type_at (length os) p i ≡ Ty.bound i
    go (Opening.of_type t) = let l : i < length os = entry_below e in rw (ne_eqb i (length os) (λ x. omega arith))
    go (Opening.of_term u) = refl

pub entry_term : {es : List Opening} {i : ℕ} {o : Opening} → AreClosedOpenings es → Entry es i o → term_instance es (Term.bound i) ≡ term_at i o i
entry_term c (Entry.here {o = o} {os = os}) = go o c.0
  where
    go : (o : Opening) → IsClosedOpening o → term_instance os (term_at (length os) o (length os)) ≡ term_at (length os) o (length os)
    go (Opening.of_term u) h = rw (itself (length os)) (term_instance_closed os u h)
    go (Opening.of_type t) h = term_instance_past os (length os) (omega arith)
entry_term c (Entry.there {p = p} {os = os} {i = i} e) = ap (term_instance os) (go p) ∙ entry_term c.1 e
  where
    go : (p : Opening) → term_at (length os) p i ≡ Term.bound i
    go (Opening.of_term u) = let l : i < length os = entry_below e in rw (ne_eqb i (length os) (λ x. omega arith))
    go (Opening.of_type t) = refl
