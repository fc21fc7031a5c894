-- Reduction, conversion and typing where a binder's variable is one that occurs nowhere else, in place of every number
-- from some bound on.
use Rattle.std.specs.Prelude.{ℕ, ◌≡◌, List, length}
use Rattle.lp_terms.specs.Term.{Lp, opened, IsClosed, IsFresh}
use Rattle.lp_terms.specs.Signature.{Entry, Holds, Declares}
use Rattle.lp_terms.specs.Reduction.{instance_at, AreClosed}
use Rattle.lp_terms.specs.Typing.{Context, Binds, IsNew, Class, IsSort}

pub data PlainReduces (sigma : List Entry) : Lp → Lp → Type 0 where
  beta : {domain body argument : Lp} → IsClosed argument → PlainReduces sigma (Lp.app (Lp.abs domain body) argument) (opened body argument)
  by_rule : {context : List Lp} {left right : Lp} (us : List Lp) → Holds sigma (Entry.rule context left right) →
      length us ≡ length context → AreClosed us → PlainReduces sigma (instance_at 0 us left) (instance_at 0 us right)
  by_definition : {name : List ℕ} {type body : Lp} → Holds sigma (Entry.define name type body) → PlainReduces sigma (Lp.const name) body
  in_function : {f g a : Lp} → PlainReduces sigma f g → PlainReduces sigma (Lp.app f a) (Lp.app g a)
  in_argument : {f a b : Lp} → PlainReduces sigma a b → PlainReduces sigma (Lp.app f a) (Lp.app f b)
  in_abs_domain : {a b t : Lp} → PlainReduces sigma a b → PlainReduces sigma (Lp.abs a t) (Lp.abs b t)
  in_abs_body : {a t u : Lp} (n : ℕ) → IsFresh n t → IsFresh n u → PlainReduces sigma (opened t (Lp.free n)) (opened u (Lp.free n)) →
      PlainReduces sigma (Lp.abs a t) (Lp.abs a u)
  in_prod_domain : {a b t : Lp} → PlainReduces sigma a b → PlainReduces sigma (Lp.prod a t) (Lp.prod b t)
  in_prod_codomain : {a t u : Lp} (n : ℕ) → IsFresh n t → IsFresh n u → PlainReduces sigma (opened t (Lp.free n)) (opened u (Lp.free n)) →
      PlainReduces sigma (Lp.prod a t) (Lp.prod a u)

pub data PlainConverts (sigma : List Entry) : Lp → Lp → Type 0 where
  same : {t : Lp} → PlainConverts sigma t t
  forth : {t u v : Lp} → PlainReduces sigma t u → PlainConverts sigma u v → PlainConverts sigma t v
  back : {t u v : Lp} → PlainReduces sigma u t → PlainConverts sigma u v → PlainConverts sigma t v

pub data PlainHas (sigma : List Entry) : Context → Lp → Class → Type 0 where
  sort : {g : Context} → PlainHas sigma g Lp.sort Class.kind
  constant : {g : Context} {name : List ℕ} {type : Lp} → Declares sigma name type → PlainHas sigma g (Lp.const name) (Class.of type)
  variable : {g : Context} {n : ℕ} {type : Lp} → Binds g n type → PlainHas sigma g (Lp.free n) (Class.of type)
  product : {g : Context} {domain codomain : Lp} {s : Class} (n : ℕ) → IsNew n g → IsFresh n codomain → PlainHas sigma g domain (Class.of Lp.sort) →
      PlainHas sigma (Context.bind n domain g) (opened codomain (Lp.free n)) s → IsSort s → PlainHas sigma g (Lp.prod domain codomain) s
  abstraction : {g : Context} {domain body codomain : Lp} {s : Class} (n : ℕ) → IsNew n g → IsFresh n body → IsFresh n codomain →
      PlainHas sigma (Context.bind n domain g) (opened body (Lp.free n)) (Class.of (opened codomain (Lp.free n))) →
      PlainHas sigma g (Lp.prod domain codomain) s → IsSort s → PlainHas sigma g (Lp.abs domain body) (Class.of (Lp.prod domain codomain))
  application : {g : Context} {f a domain codomain : Lp} → PlainHas sigma g f (Class.of (Lp.prod domain codomain)) →
      PlainHas sigma g a (Class.of domain) → PlainHas sigma g (Lp.app f a) (Class.of (opened codomain a))
  conversion : {g : Context} {t type other : Lp} {s : Class} → PlainHas sigma g t (Class.of type) → PlainConverts sigma type other →
      PlainHas sigma g other s → IsSort s → PlainHas sigma g t (Class.of other)
