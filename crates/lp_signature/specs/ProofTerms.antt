-- The proof term of each rule but the two for equal arguments. Bound variables are written as free ones with the numbers from d on, and closed over.
use Rattle.std.specs.Prelude.{ℕ, suc, codes}
use Rattle.lp_terms.specs.Term.{Lp, closed}
use Rattle.lp_signature.specs.Prelude.{prop, prf, term, falsity, not_of, imp_of, eq_of}

-- an abstraction over the free variable d
abbrev pub bind : ℕ → Lp → Lp → Lp
bind d a t = Lp.abs a (closed d t)

-- by contradiction: the variable d proves the negation
abbrev pub nn : ℕ → Lp → Lp → Lp
nn d a r = Lp.app (Lp.app (Lp.const (codes "nnpp")) a) (bind d (prf (not_of a)) r)

abbrev pub not_true_term : Lp → Lp
not_true_term h = Lp.app h (Lp.abs (prf falsity) (Lp.index 0))

abbrev pub axiom_term : Lp → Lp → Lp
axiom_term h k = Lp.app k h

abbrev pub not_not_term : ℕ → Lp → Lp → Lp → Lp
not_not_term d h a r = Lp.app h (bind d (prf a) r)

abbrev pub and_term : ℕ → Lp → Lp → Lp → Lp → Lp
and_term d h a b r = Lp.app (Lp.app h falsity) (bind d (prf a) (bind (suc d) (prf b) r))

-- a disjunction from its left or right side
abbrev pub in_left : Lp → Lp → Lp → Lp
in_left a b h = Lp.abs prop (Lp.abs (Lp.prod (prf a) (prf (Lp.index 1))) (Lp.abs (Lp.prod (prf b) (prf (Lp.index 2))) (Lp.app (Lp.index 1) h)))

abbrev pub in_right : Lp → Lp → Lp → Lp
in_right a b h = Lp.abs prop (Lp.abs (Lp.prod (prf a) (prf (Lp.index 1))) (Lp.abs (Lp.prod (prf b) (prf (Lp.index 2))) (Lp.app (Lp.index 0) h)))

abbrev pub not_or_term : ℕ → Lp → Lp → Lp → Lp → Lp
not_or_term d h a b r =
    Lp.app (Lp.app (bind d (prf (not_of a)) (bind (suc d) (prf (not_of b)) r))
    (bind d (prf a) (Lp.app h (in_left a b (Lp.free d)))))
    (bind d (prf b) (Lp.app h (in_right a b (Lp.free d))))

abbrev pub not_imp_term : ℕ → Lp → Lp → Lp → Lp → Lp
not_imp_term d h a b r = Lp.app h (bind d (prf a) (nn (suc d) b r))

abbrev pub or_term : ℕ → Lp → Lp → Lp → Lp → Lp → Lp
or_term d h a b r s = Lp.app (Lp.app (Lp.app h falsity) (bind d (prf a) r)) (bind d (prf b) s)

abbrev pub not_and_term : ℕ → Lp → Lp → Lp → Lp → Lp → Lp
not_and_term d h a b r s =
    Lp.app h (bind d prop (bind (suc d) (Lp.prod (prf a) (Lp.prod (prf b) (prf (Lp.free d))))
    (Lp.app (Lp.app (Lp.free (suc d)) (nn (suc (suc d)) a r)) (nn (suc (suc d)) b s))))

abbrev pub imp_term : ℕ → Lp → Lp → Lp → Lp → Lp → Lp
imp_term d h a b r s = Lp.app (bind d (prf b) s) (Lp.app h (nn d a r))

-- f, g, then u and v, or a and b
abbrev pub iff_term : ℕ → Lp → Lp → Lp → Lp → Lp → Lp
iff_term d h a b r s =
    Lp.app (Lp.app h falsity) (bind d (prf (imp_of a b)) (bind (suc d) (prf (imp_of b a))
    (Lp.app
    (bind (suc (suc d)) (prf (not_of a))
    (Lp.app (bind (suc (suc (suc d))) (prf (not_of b)) s)
    (bind (suc (suc (suc d))) (prf b) (Lp.app (Lp.free (suc (suc d))) (Lp.app (Lp.free (suc d)) (Lp.free (suc (suc (suc d)))))))))
    (bind (suc (suc d)) (prf a)
    (Lp.app (bind (suc (suc (suc d))) (prf b) r) (Lp.app (Lp.free d) (Lp.free (suc (suc d)))))))))

abbrev pub not_iff_term : ℕ → Lp → Lp → Lp → Lp → Lp → Lp
not_iff_term d h a b r s =
    Lp.app h (bind d prop (bind (suc d) (Lp.prod (prf (imp_of a b)) (Lp.prod (prf (imp_of b a)) (prf (Lp.free d))))
    (Lp.app (Lp.app (Lp.free (suc d))
    (bind (suc (suc d)) (prf a) (nn (suc (suc (suc d))) b r)))
    (bind (suc (suc d)) (prf b) (nn (suc (suc (suc d))) a s)))))

-- over the predicate's body f, with u for its variable
abbrev pub forall_term : ℕ → Lp → Lp → Lp → Lp → Lp
forall_term d h u f r = Lp.app (bind d (prf f) r) (Lp.app h u)

-- the predicate is over the domain a; the variable d stands for the parameter, and f is the body at it
abbrev pub exists_term : ℕ → Lp → Lp → Lp → Lp → Lp
exists_term d h a f r = Lp.app (Lp.app h falsity) (bind d a (bind (suc d) (prf f) r))

abbrev pub reflexive : Lp → Lp → Lp
reflexive a t = Lp.abs (Lp.prod (term a) prop) (Lp.abs (prf (Lp.app (Lp.index 0) t)) (Lp.index 0))

abbrev pub refl_term : Lp → Lp → Lp → Lp
refl_term h a t = Lp.app h (reflexive a t)

-- the predicate f is over the domain a
abbrev pub not_forall_term : ℕ → Lp → Lp → Lp → Lp → Lp
not_forall_term d h a f r = Lp.app h (bind d a (nn (suc d) f r))

-- the predicate is over the domain a; body is its body, with the index 0 for the variable, and f is the body at u
abbrev pub not_exists_term : ℕ → Lp → Lp → Lp → Lp → Lp → Lp → Lp
not_exists_term d h a body u f r =
    Lp.app (bind d (prf (not_of f)) r)
    (bind d (prf f) (Lp.app h (Lp.abs prop (Lp.abs (Lp.prod a (Lp.prod (prf body) (prf (Lp.index 2)))) (Lp.app (Lp.app (Lp.index 0) u) (Lp.free d))))))

-- equal to s; what s is equal to
abbrev pub is_equal_to : Lp → Lp → Lp
is_equal_to a s = Lp.abs (term a) (eq_of a (Lp.index 0) s)

abbrev pub equals : Lp → Lp → Lp
equals a s = Lp.abs (term a) (eq_of a s (Lp.index 0))

abbrev pub sym_term : Lp → Lp → Lp → Lp → Lp
sym_term h k a s = Lp.app k (Lp.app (Lp.app h (is_equal_to a s)) (reflexive a s))

abbrev pub trans_first_term : ℕ → Lp → Lp → Lp → Lp → Lp → Lp → Lp → Lp → Lp → Lp
trans_first_term d h k a s t u v r q =
    Lp.app k (Lp.app (Lp.app (nn d (eq_of a t v) q) (equals a u)) (Lp.app (Lp.app h (equals a u)) (nn d (eq_of a u s) r)))

abbrev pub trans_second_term : ℕ → Lp → Lp → Lp → Lp → Lp → Lp → Lp → Lp → Lp → Lp
trans_second_term d h k a s t u v r q =
    Lp.app k (Lp.app (Lp.app (nn d (eq_of a s v) q) (equals a u))
    (Lp.app (Lp.app (Lp.app (Lp.app h (is_equal_to a s)) (reflexive a s)) (equals a u)) (nn d (eq_of a u t) r)))
