-- What the proofs of a proposition convert to by the prelude's rules, over closed parts.
use Rattle.lp_terms.specs.Term.{Lp}
use Rattle.lp_signature.specs.Prelude.{prop, prf, term}

abbrev pub false_right : Lp
false_right = Lp.prod prop (prf (Lp.index 0))

abbrev pub and_right : Lp → Lp → Lp
and_right p q = Lp.prod prop (Lp.prod (Lp.prod (prf p) (Lp.prod (prf q) (prf (Lp.index 2)))) (prf (Lp.index 1)))

abbrev pub or_right : Lp → Lp → Lp
or_right p q = Lp.prod prop (Lp.prod (Lp.prod (prf p) (prf (Lp.index 1))) (Lp.prod (Lp.prod (prf q) (prf (Lp.index 2))) (prf (Lp.index 2))))

-- the domain is the terms of a type, or the types
abbrev pub forall_right : Lp → Lp → Lp
forall_right dom f = Lp.prod dom (prf (Lp.app f (Lp.index 0)))

-- what shows p from an instance
abbrev pub exists_inner : Lp → Lp → Lp → Lp
exists_inner dom f p = Lp.prod dom (Lp.prod (prf (Lp.app f (Lp.index 0))) (prf p))

abbrev pub exists_right : Lp → Lp → Lp
exists_right dom f = Lp.prod prop (Lp.prod (Lp.prod dom (Lp.prod (prf (Lp.app f (Lp.index 0))) (prf (Lp.index 2)))) (prf (Lp.index 1)))

abbrev pub eq_right : Lp → Lp → Lp → Lp
eq_right a s t = Lp.prod (Lp.prod (term a) prop) (Lp.prod (prf (Lp.app (Lp.index 0) s)) (prf (Lp.app (Lp.index 1) t)))
