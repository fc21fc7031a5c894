-- A term has a type where it is well typed and its head gives it the type.
use Rattle.std.proofs.Common.{ℕ, ◌≡◌, Bool, true, false, ◌&&◌, ◌==◌, if◌then◌else◌, Option, None, Some, List, refl, ap, sym, subst, ◌∙◌, arith}
use Rattle.std.proofs.lemmas.Bool.{and_right}
use Rattle.zm_logic.proofs.TypeInstances.{length_openings}
use Rattle.zm_logic.specs.Tree.{Ty, Tys, Term, Terms, Symbol, Sense, Opening}
use Rattle.zm_logic.specs.Opening.{type_at, open_type, open_types, openings, type_instance, types_instance}
use Rattle.zm_logic.specs.Typing.{how_many, symbol_at, IsType, AreTypes}
use Rattle.zm_logic.specs.Same.{same_type}
use Rattle.zm_logic.proofs.Sames.{same_type-self, same_type-true}
use Rattle.equality_rules.specs.Typed as test
use Rattle.equality_rules.specs.Typed.{is_type, are_types, has_type, have_types, makes}
use Rattle.equality_rules.specs.Heads.{standing, instance_at, instances_at, is_function, takes, makes_at, result_is, arguments_at, head_is, heads_are, is_typed, are_typed}
use Rattle.equality_rules.specs.Laws as laws
use Rattle.equality_rules.proofs.Typed.{types_true, term_true, term_is}

-- a test of sameness either way round
bools : (a b : Bool) → (a ≡ true → b ≡ true) → (b ≡ true → a ≡ true) → a ≡ b
bools true true f g = refl
bools true false f g = sym (f refl)
bools false true f g = g refl
bools false false f g = refl

pub same_turned : (s t : Ty) → same_type s t ≡ same_type t s
same_turned s t = bools (same_type s t) (same_type t s) (turn s t) (turn t s)
  where
    turn : (a b : Ty) → same_type a b ≡ true → same_type b a ≡ true
    turn a b e = subst (λ x. same_type x a ≡ true) (same_type-true a b e) (same_type-self a)

-- nothing is put into a type without loose indices
module _ (symbols : List Symbol) (ts : Tys) where
  mutual
    closed_itself : (t : Ty) → IsType symbols 0 t → instance_at ts t ≡ t
    closed_itself (Ty.bound i) h = absurd (omega (arith, h))
    closed_itself (Ty.param n) h = refl
    closed_itself (Ty.meta n) h = refl
    closed_itself (Ty.con c ss) h = ap (Ty.con c) (closed_themselves ss h.1)

    closed_themselves : (ss : Tys) → AreTypes symbols 0 ss → instances_at ts ss ≡ ss
    closed_themselves Tys.none h = refl
    closed_themselves (Tys.more s ss) h = ap (λ x. Tys.more x (instances_at ts ss)) (closed_itself s h.0) ∙ ap (Tys.more s) (closed_themselves ss h.1)

-- one type is put in before the others, or all at once
module _ (t : Ty) (ts : Tys) (same : instance_at ts t ≡ t) where
  one_first : (i : ℕ) → instance_at ts (type_at (how_many ts) (Opening.of_type t) i) ≡ standing (Tys.more t ts) i
  one_first i = by (i == how_many ts)
    where
      by : (b : Bool) → instance_at ts (if b then t else Ty.bound i) ≡ (if b then t else standing ts i)
      by true = same
      by false = refl

  mutual
    put_first : (r : Ty) → instance_at ts (open_type (how_many ts) (Opening.of_type t) r) ≡ instance_at (Tys.more t ts) r
    put_first (Ty.bound i) = one_first i
    put_first (Ty.param n) = refl
    put_first (Ty.meta n) = refl
    put_first (Ty.con c ss) = ap (Ty.con c) (puts_first ss)

    puts_first : (rs : Tys) → instances_at ts (open_types (how_many ts) (Opening.of_type t) rs) ≡ instances_at (Tys.more t ts) rs
    puts_first Tys.none = refl
    puts_first (Tys.more r rs) =
        ap (λ x. Tys.more x (instances_at ts (open_types (how_many ts) (Opening.of_type t) rs))) (put_first r)
        ∙ ap (Tys.more (instance_at (Tys.more t ts) r)) (puts_first rs)

module _ (symbols : List Symbol) where
  mutual
    none_type : (r : Ty) → instance_at Tys.none r ≡ r
    none_type (Ty.bound i) = refl
    none_type (Ty.param n) = refl
    none_type (Ty.meta n) = refl
    none_type (Ty.con c ss) = ap (Ty.con c) (none_types ss)

    none_types : (rs : Tys) → instances_at Tys.none rs ≡ rs
    none_types Tys.none = refl
    none_types (Tys.more r rs) = ap (λ x. Tys.more x (instances_at Tys.none rs)) (none_type r) ∙ ap (Tys.more r) (none_types rs)

  -- a declared type at types without loose indices
  pub instance_is : (ts : Tys) (r : Ty) → AreTypes symbols 0 ts → type_instance (openings ts) r ≡ instance_at ts r
  instance_is Tys.none r h = sym (none_type r)
  instance_is (Tys.more t ts) r h =
      ap (λ n. type_instance (openings ts) (open_type n (Opening.of_type t) r)) (length_openings ts)
      ∙ instance_is ts (open_type (how_many ts) (Opening.of_type t) r) h.1
      ∙ put_first t ts (closed_itself symbols ts t h.0) r

  pub instances_are : (ts rs : Tys) → AreTypes symbols 0 ts → types_instance (openings ts) rs ≡ instances_at ts rs
  instances_are Tys.none rs h = sym (none_types rs)
  instances_are (Tys.more t ts) rs h =
      ap (λ n. types_instance (openings ts) (open_types n (Opening.of_type t) rs)) (length_openings ts)
      ∙ instances_are ts (open_types (how_many ts) (Opening.of_type t) rs) h.1
      ∙ puts_first t ts (closed_itself symbols ts t h.0) rs

  makes_sense : (s : Sense) (b : Bool) (ts : Tys) (t : Ty) → AreTypes symbols 0 ts
      → (b && test.result_is s ts t) ≡ ((is_function s && b) && makes_at s ts t)
  makes_sense Sense.constructor b ts t h = and_right b false refl
  makes_sense Sense.predicate b ts t h = and_right b false refl
  makes_sense (Sense.function r) b ts t h = ap (λ x. b && same_type x t) (instance_is ts r h)

  makes_is : (o : Option Symbol) (ts : Tys) (t : Ty) → AreTypes symbols 0 ts → makes o ts t ≡ (takes o (how_many ts) && result_is o ts t)
  makes_is None ts t h = refl
  makes_is (Some d) ts t h = makes_sense d.sense (d.types == how_many ts) ts t h

  arguments_are : (o : Option Symbol) (ts : Tys) → AreTypes symbols 0 ts → test.arguments_at o ts ≡ arguments_at o ts
  arguments_are None ts h = refl
  arguments_are (Some d) ts h = instances_are ts d.arguments h

-- how the tests are put together
shuffled : (k r y z : Bool) → ((k && r) && (y && z)) ≡ (((k && z) && y) && r)
shuffled true true true true = refl
shuffled true true true false = refl
shuffled true true false true = refl
shuffled true true false false = refl
shuffled true false true true = refl
shuffled true false true false = refl
shuffled true false false true = refl
shuffled true false false false = refl
shuffled false r y z = refl

dealt : (a c b d : Bool) → ((a && c) && (b && d)) ≡ ((a && b) && (c && d))
dealt true true b d = refl
dealt true false true d = refl
dealt true false false d = refl
dealt false c b d = refl

pieces : (m h k r y z t : Bool) → (t ≡ true → (m ≡ (k && r)) × (h ≡ (y && z))) → (m && (t && h)) ≡ (((k && z) && (t && y)) && r)
pieces m h k r y z true f =
    let p = f refl in
    ap (λ x. x && h) p.0 ∙ ap (λ x. (k && r) && x) p.1 ∙ shuffled k r y z
pieces m h k r y z false f = (and_right m false refl) ∙ sym (ap (λ x. x && r) (and_right (k && z) false refl))

module _ (symbols : List Symbol) where
  mutual
    pub heads_tell : (u : Term) (t : Ty) → has_type symbols u t ≡ (is_typed symbols u && head_is symbols u t)
    heads_tell (Term.bound i) t = refl
    heads_tell (Term.eps n s) t = ap (λ x. is_type symbols s && x) (same_turned s t)
    heads_tell (Term.meta n s) t = ap (λ x. is_type symbols s && x) (same_turned s t)
    heads_tell (Term.app f ts us) t =
        let o = symbol_at symbols f in
        pieces (makes o ts t) (have_types symbols us (test.arguments_at o ts)) (takes o (how_many ts)) (result_is o ts t)
        (are_typed symbols us) (heads_are symbols us (arguments_at o ts)) (are_types symbols ts)
        (λ e. (let h = types_true symbols ts e in
        (makes_is symbols o ts t h, ap (have_types symbols us) (arguments_are symbols o ts h) ∙ heads_tell_all us (arguments_at o ts))))

    heads_tell_all : (us : Terms) (ss : Tys) → have_types symbols us ss ≡ (are_typed symbols us && heads_are symbols us ss)
    heads_tell_all Terms.none Tys.none = refl
    heads_tell_all Terms.none (Tys.more s ss) = refl
    heads_tell_all (Terms.more u us) Tys.none = sym (and_right (is_typed symbols u && are_typed symbols us) false refl)
    heads_tell_all (Terms.more u us) (Tys.more s ss) =
        ap (λ b. b && have_types symbols us ss) (heads_tell u s)
        ∙ ap (λ b. (is_typed symbols u && head_is symbols u s) && b) (heads_tell_all us ss)
        ∙ dealt (is_typed symbols u) (head_is symbols u s) (are_typed symbols us) (heads_are symbols us ss)

pub typing_is_tested : laws.TypingIsTested
typing_is_tested symbols u t = (term_true symbols u t, term_is symbols u t)
