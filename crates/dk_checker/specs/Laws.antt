-- What the definitions promise. Each statement is the contract of a function of the module laws.
use Rattle.std.specs.Prelude.{ℕ, ◌≡◌, ◌≢◌, List, [], ◌∷◌, codes, true, false}
use Rattle.lp_terms.specs.Term.{Lp}
use Rattle.lp_terms.specs.Signature.{Entry}
use Rattle.lp_terms.specs.Typing.{Class}
use Rattle.lp_terms.specs.WellFormed.{IsWellFormed}
use Rattle.lp_terms.specs.File.{IsFile}
use Rattle.dk_checker.specs.Found.{Refusal, Stop, Found}
use Rattle.dk_checker.specs.Inference.{check}

-- An accepted file is well formed.
abbrev pub AcceptedIsWellFormed : Type 0
AcceptedIsWellFormed = (limit : ℕ) (entries : List Entry) → IsFile entries → check limit entries ≡ Found.gives tt → IsWellFormed entries

-- The check of a file stops at no name or variable without a type.
abbrev pub NothingIsUnbound : Type 0
NothingIsUnbound = (limit : ℕ) (entries : List Entry) → IsFile entries → check limit entries ≢ Found.stops Stop.unbound

abbrev a : Lp
a = Lp.const (codes "a")

abbrev b : Lp
b = Lp.const (codes "b")

-- a : Type. b : a.
abbrev front : List Entry → List Entry
front rest = Entry.declare (codes "a") false Lp.sort ∷ Entry.declare (codes "b") false a ∷ rest

-- def c : a := b.
abbrev pub DefinitionIsAccepted : Type 0
DefinitionIsAccepted = check 10 (front (Entry.define (codes "c") a b ∷ [])) ≡ Found.gives tt

-- [] b --> b.
abbrev pub RuleHeadIsRefused : Type 0
RuleHeadIsRefused = check 10 (front (Entry.rule [] b b ∷ [])) ≡ Found.stops (Stop.refused (2 ∷ []) Refusal.rule_head)

-- def c : a := b b.
abbrev pub ElementIsNoProduct : Type 0
ElementIsNoProduct =
    check 10 (front (Entry.define (codes "c") a (Lp.app b b) ∷ []))
    ≡ Found.stops (Stop.refused (2 ∷ 1 ∷ 0 ∷ []) (Refusal.not_product (Class.of a) (Class.of a)))

-- c : b.
abbrev pub ElementIsNoType : Type 0
ElementIsNoType =
    check 10 (front (Entry.declare (codes "c") false b ∷ [])) ≡ Found.stops (Stop.refused (2 ∷ 0 ∷ []) (Refusal.not_sort (Class.of a) (Class.of a)))

-- def c : a := Type.
abbrev pub TypeIsNoElement : Type 0
TypeIsNoElement =
    check 10 (front (Entry.define (codes "c") a Lp.sort ∷ []))
    ≡ Found.stops (Stop.refused (2 ∷ 1 ∷ []) (Refusal.mismatch Class.kind (Class.of a) Class.kind (Class.of a)))

-- def c : a := (x : a => Type).
abbrev pub KindIsNoBody : Type 0
KindIsNoBody = check 10 (front (Entry.define (codes "c") a (Lp.abs a Lp.sort) ∷ [])) ≡ Found.stops (Stop.refused (2 ∷ 1 ∷ 1 ∷ []) Refusal.body_kind)

-- def d : Type. [] d --> d. e : d. def c : a := e.
abbrev pub LoopIsSpent : Type 0
LoopIsSpent =
    check 10 (front (Entry.declare (codes "d") true Lp.sort ∷ Entry.rule [] (Lp.const (codes "d")) (Lp.const (codes "d"))
    ∷ Entry.declare (codes "e") false (Lp.const (codes "d")) ∷ Entry.define (codes "c") a (Lp.const (codes "e")) ∷ []))
    ≡ Found.stops (Stop.spent (Lp.const (codes "d")))

-- p : a -> a -> Type. def q : a -> a -> Type. [x : a] q x x --> p x x. r : p b b. def s : q b b := r.
abbrev pub RepeatedVariableIsMatched : Type 0
RepeatedVariableIsMatched =
    check 10 (front (Entry.declare (codes "p") false (Lp.prod a (Lp.prod a Lp.sort)) ∷ Entry.declare (codes "q") true (Lp.prod a (Lp.prod a Lp.sort))
    ∷ Entry.rule (a ∷ []) (Lp.app (Lp.app (Lp.const (codes "q")) (Lp.index 0)) (Lp.index 0)) (Lp.app (Lp.app (Lp.const (codes "p")) (Lp.index 0)) (Lp.index 0))
    ∷ Entry.declare (codes "r") false (Lp.app (Lp.app (Lp.const (codes "p")) b) b)
    ∷ Entry.define (codes "s") (Lp.app (Lp.app (Lp.const (codes "q")) b) b) (Lp.const (codes "r")) ∷ []))
    ≡ Found.gives tt
