-- The prelude of proof files: propositions as types with proofs, types as terms with elements, and the rules of the
-- connectives. Above each entry stands its text.
use Rattle.std.specs.Prelude.{List, [], ◌∷◌, ◌++◌, true, false, codes}
use Rattle.lp_terms.specs.Term.{Lp}
use Rattle.lp_terms.specs.Signature.{Entry}

-- the type of propositions, and the type of a proposition's proofs
abbrev pub prop : Lp
prop = Lp.const (codes "prop")

abbrev pub prf : Lp → Lp
prf p = Lp.app (Lp.const (codes "prf")) p

-- the type of types, and the type of a type's terms
abbrev pub types : Lp
types = Lp.const (codes "type")

abbrev pub term : Lp → Lp
term a = Lp.app (Lp.const (codes "term")) a

abbrev pub iota : Lp
iota = Lp.const (codes "iota")

abbrev pub any : Lp → Lp
any a = Lp.app (Lp.const (codes "any")) a

abbrev pub truth : Lp
truth = Lp.const (codes "true")

abbrev pub falsity : Lp
falsity = Lp.const (codes "false")

abbrev pub not_of : Lp → Lp
not_of p = Lp.app (Lp.const (codes "not")) p

abbrev pub and_of : Lp → Lp → Lp
and_of p q = Lp.app (Lp.app (Lp.const (codes "and")) p) q

abbrev pub or_of : Lp → Lp → Lp
or_of p q = Lp.app (Lp.app (Lp.const (codes "or")) p) q

abbrev pub imp_of : Lp → Lp → Lp
imp_of p q = Lp.app (Lp.app (Lp.const (codes "imp")) p) q

abbrev pub iff_of : Lp → Lp → Lp
iff_of p q = Lp.app (Lp.app (Lp.const (codes "iff")) p) q

-- over the terms of a type, the predicate being a function
abbrev pub forall_of : Lp → Lp → Lp
forall_of a f = Lp.app (Lp.app (Lp.const (codes "forall")) a) f

abbrev pub exists_of : Lp → Lp → Lp
exists_of a f = Lp.app (Lp.app (Lp.const (codes "exists")) a) f

-- over the types
abbrev pub forall_type_of : Lp → Lp
forall_type_of f = Lp.app (Lp.const (codes "forall_type")) f

abbrev pub exists_type_of : Lp → Lp
exists_type_of f = Lp.app (Lp.const (codes "exists_type")) f

abbrev pub eq_of : Lp → Lp → Lp → Lp
eq_of a s t = Lp.app (Lp.app (Lp.app (Lp.const (codes "eq")) a) s) t

-- prop -> prop -> prop
abbrev pub connective_type : Lp
connective_type = Lp.prod prop (Lp.prod prop prop)

-- x0 : type -> (term x0 -> prop) -> prop
abbrev pub quantifier_type : Lp
quantifier_type = Lp.prod types (Lp.prod (Lp.prod (term (Lp.index 0)) prop) prop)

-- (type -> prop) -> prop
abbrev pub type_quantifier_type : Lp
type_quantifier_type = Lp.prod (Lp.prod types prop) prop

-- prop : Type.
abbrev pub prop_entry : Entry
prop_entry = Entry.declare (codes "prop") false Lp.sort

-- def prf : prop -> Type.
abbrev pub prf_entry : Entry
prf_entry = Entry.declare (codes "prf") true (Lp.prod prop Lp.sort)

-- type : Type.
abbrev pub type_entry : Entry
type_entry = Entry.declare (codes "type") false Lp.sort

-- term : type -> Type.
abbrev pub term_entry : Entry
term_entry = Entry.declare (codes "term") false (Lp.prod types Lp.sort)

-- iota : type.
abbrev pub iota_entry : Entry
iota_entry = Entry.declare (codes "iota") false types

-- any : x0 : type -> term x0.
abbrev pub any_entry : Entry
any_entry = Entry.declare (codes "any") false (Lp.prod types (term (Lp.index 0)))

-- true : prop.
abbrev pub true_entry : Entry
true_entry = Entry.declare (codes "true") false prop

-- false : prop.
abbrev pub false_entry : Entry
false_entry = Entry.declare (codes "false") false prop

-- not : prop -> prop.
abbrev pub not_entry : Entry
not_entry = Entry.declare (codes "not") false (Lp.prod prop prop)

-- and : prop -> prop -> prop.
abbrev pub and_entry : Entry
and_entry = Entry.declare (codes "and") false connective_type

-- or : prop -> prop -> prop.
abbrev pub or_entry : Entry
or_entry = Entry.declare (codes "or") false connective_type

-- imp : prop -> prop -> prop.
abbrev pub imp_entry : Entry
imp_entry = Entry.declare (codes "imp") false connective_type

-- iff : prop -> prop -> prop.
abbrev pub iff_entry : Entry
iff_entry = Entry.declare (codes "iff") false connective_type

-- forall : x0 : type -> (term x0 -> prop) -> prop.
abbrev pub forall_entry : Entry
forall_entry = Entry.declare (codes "forall") false quantifier_type

-- exists : x0 : type -> (term x0 -> prop) -> prop.
abbrev pub exists_entry : Entry
exists_entry = Entry.declare (codes "exists") false quantifier_type

-- forall_type : (type -> prop) -> prop.
abbrev pub forall_type_entry : Entry
forall_type_entry = Entry.declare (codes "forall_type") false type_quantifier_type

-- def eq : x0 : type -> term x0 -> term x0 -> prop.
abbrev pub eq_entry : Entry
eq_entry = Entry.declare (codes "eq") true (Lp.prod types (Lp.prod (term (Lp.index 0)) (Lp.prod (term (Lp.index 1)) prop)))

-- [] prf true --> prf false -> prf false.
abbrev pub true_rule : Entry
true_rule = Entry.rule [] (prf truth) (Lp.prod (prf falsity) (prf falsity))

-- [] prf false --> x0 : prop -> prf x0.
abbrev pub false_rule : Entry
false_rule = Entry.rule [] (prf falsity) (Lp.prod prop (prf (Lp.index 0)))

-- [x0 : prop] prf (not x0) --> prf x0 -> prf false.
abbrev pub not_rule : Entry
not_rule = Entry.rule (prop ∷ []) (prf (not_of (Lp.index 0))) (Lp.prod (prf (Lp.index 0)) (prf falsity))

-- [x0 : prop, x1 : prop] prf (and x0 x1) --> x2 : prop -> (prf x0 -> prf x1 -> prf x2) -> prf x2.
abbrev pub and_rule : Entry
and_rule = Entry.rule (prop ∷ prop ∷ []) (prf (and_of (Lp.index 1) (Lp.index 0)))
    (Lp.prod prop (Lp.prod (Lp.prod (prf (Lp.index 2)) (Lp.prod (prf (Lp.index 2)) (prf (Lp.index 2)))) (prf (Lp.index 1))))

-- [x0 : prop, x1 : prop] prf (or x0 x1) --> x2 : prop -> (prf x0 -> prf x2) -> (prf x1 -> prf x2) -> prf x2.
abbrev pub or_rule : Entry
or_rule = Entry.rule (prop ∷ prop ∷ []) (prf (or_of (Lp.index 1) (Lp.index 0)))
    (Lp.prod prop (Lp.prod (Lp.prod (prf (Lp.index 2)) (prf (Lp.index 1))) (Lp.prod (Lp.prod (prf (Lp.index 2)) (prf (Lp.index 2))) (prf (Lp.index 2)))))

-- [x0 : prop, x1 : prop] prf (imp x0 x1) --> prf x0 -> prf x1.
abbrev pub imp_rule : Entry
imp_rule = Entry.rule (prop ∷ prop ∷ []) (prf (imp_of (Lp.index 1) (Lp.index 0))) (Lp.prod (prf (Lp.index 1)) (prf (Lp.index 1)))

-- [x0 : prop, x1 : prop] prf (iff x0 x1) --> prf (and (imp x0 x1) (imp x1 x0)).
abbrev pub iff_rule : Entry
iff_rule = Entry.rule (prop ∷ prop ∷ []) (prf (iff_of (Lp.index 1) (Lp.index 0)))
    (prf (and_of (imp_of (Lp.index 1) (Lp.index 0)) (imp_of (Lp.index 0) (Lp.index 1))))

-- [x0 : type, x1 : term x0 -> prop] prf (forall x0 x1) --> x2 : term x0 -> prf (x1 x2).
abbrev pub forall_rule : Entry
forall_rule = Entry.rule (types ∷ Lp.prod (term (Lp.index 0)) prop ∷ []) (prf (forall_of (Lp.index 1) (Lp.index 0)))
    (Lp.prod (term (Lp.index 1)) (prf (Lp.app (Lp.index 1) (Lp.index 0))))

-- [x0 : type, x1 : term x0 -> prop] prf (exists x0 x1) --> x2 : prop -> (x3 : term x0 -> prf (x1 x3) -> prf x2) -> prf x2.
abbrev pub exists_rule : Entry
exists_rule = Entry.rule (types ∷ Lp.prod (term (Lp.index 0)) prop ∷ []) (prf (exists_of (Lp.index 1) (Lp.index 0)))
    (Lp.prod prop (Lp.prod (Lp.prod (term (Lp.index 2)) (Lp.prod (prf (Lp.app (Lp.index 2) (Lp.index 0))) (prf (Lp.index 2)))) (prf (Lp.index 1))))

-- [x0 : type -> prop] prf (forall_type x0) --> x1 : type -> prf (x0 x1).
abbrev pub forall_type_rule : Entry
forall_type_rule = Entry.rule (Lp.prod types prop ∷ []) (prf (forall_type_of (Lp.index 0))) (Lp.prod types (prf (Lp.app (Lp.index 1) (Lp.index 0))))

-- [x0 : type, x1 : term x0, x2 : term x0] prf (eq x0 x1 x2) --> x3 : (term x0 -> prop) -> prf (x3 x1) -> prf (x3 x2).
abbrev pub eq_rule : Entry
eq_rule = Entry.rule (types ∷ term (Lp.index 0) ∷ term (Lp.index 1) ∷ []) (prf (eq_of (Lp.index 2) (Lp.index 1) (Lp.index 0)))
    (Lp.prod (Lp.prod (term (Lp.index 2)) prop) (Lp.prod (prf (Lp.app (Lp.index 0) (Lp.index 2))) (prf (Lp.app (Lp.index 1) (Lp.index 2)))))

-- nnpp : x0 : prop -> prf (not (not x0)) -> prf x0.
abbrev pub nnpp_type : Lp
nnpp_type = Lp.prod prop (Lp.prod (prf (not_of (not_of (Lp.index 0)))) (prf (Lp.index 1)))

abbrev pub nnpp_entry : Entry
nnpp_entry = Entry.declare (codes "nnpp") false nnpp_type

-- exists_type : (type -> prop) -> prop.
abbrev pub exists_type_entry : Entry
exists_type_entry = Entry.declare (codes "exists_type") false type_quantifier_type

-- [x0 : type -> prop] prf (exists_type x0) --> x1 : prop -> (x2 : type -> prf (x0 x2) -> prf x1) -> prf x1.
abbrev pub exists_type_rule : Entry
exists_type_rule = Entry.rule (Lp.prod types prop ∷ []) (prf (exists_type_of (Lp.index 0)))
    (Lp.prod prop (Lp.prod (Lp.prod types (Lp.prod (prf (Lp.app (Lp.index 2) (Lp.index 0))) (prf (Lp.index 2)))) (prf (Lp.index 1))))

-- the first declarations
abbrev pub symbols : List Entry
symbols =
    prop_entry ∷ prf_entry ∷ type_entry ∷ term_entry ∷ iota_entry ∷ any_entry
    ∷ true_entry ∷ false_entry ∷ not_entry ∷ and_entry ∷ or_entry ∷ imp_entry ∷ iff_entry
    ∷ forall_entry ∷ exists_entry ∷ forall_type_entry ∷ eq_entry ∷ []

-- their rules
abbrev pub rules : List Entry
rules =
    true_rule ∷ false_rule ∷ not_rule ∷ and_rule ∷ or_rule ∷ imp_rule ∷ iff_rule
    ∷ forall_rule ∷ exists_rule ∷ forall_type_rule ∷ eq_rule ∷ []

-- the 31 entries
abbrev pub prelude : List Entry
prelude = symbols ++ (rules ++ (nnpp_entry ∷ exists_type_entry ∷ exists_type_rule ∷ []))
