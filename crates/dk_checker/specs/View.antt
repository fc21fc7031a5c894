-- The plain classes, refusals and contexts of the code's values.
use Rattle.std.specs.Prelude.{◌≡◌, ℕ, zero, suc, List, [], ◌∷◌, reverse, Result, Ok, Err}
use Rattle.lp_terms.specs.declared.term.Lp.{Lp}
use Rattle.lp_terms.specs.Term as plain
use Rattle.lp_terms.specs.Typing as typing
use Rattle.lp_terms.specs.View.{term_of, terms_of}
use Rattle.dk_checker.specs.declared.verdict.Class.{Class}
use Rattle.dk_checker.specs.declared.verdict.Class.TheVariants as classes
use Rattle.dk_checker.specs.declared.stop.Refusal.{Refusal}
use Rattle.dk_checker.specs.declared.stop.Refusal.TheVariants as refusals
use Rattle.dk_checker.specs.declared.stop.Halt.{Halt}
use Rattle.dk_checker.specs.declared.stop.Halt.TheVariants as halts
use Rattle.dk_checker.specs.declared.stop.Stop.{Stop}
use Rattle.dk_checker.specs.declared.stop.Stop.TheVariants as stops
use Rattle.lp_terms.specs.Signature.{Entry}
use Rattle.dk_checker.specs.Found as found
use Rattle.dk_checker.specs.Asking.{normal_class}

abbrev pub class_of : Class → typing.Class
class_of classes.Kind = typing.Class.kind
class_of (classes.Of t) = typing.Class.of (term_of t)

abbrev pub under_of : Lp × Class → plain.Lp × typing.Class
under_of p = (term_of p.0, class_of p.1)

abbrev pub pair_of : Lp × Lp → plain.Lp × plain.Lp
pair_of p = (term_of p.0, term_of p.1)

abbrev pub refusal_of : Refusal → found.Refusal
refusal_of (refusals.Mismatch f w fn wn) = found.Refusal.mismatch (class_of f) (class_of w) (class_of fn) (class_of wn)
refusal_of (refusals.NotProduct f n) = found.Refusal.not_product (class_of f) (class_of n)
refusal_of (refusals.NotSort f n) = found.Refusal.not_sort (class_of f) (class_of n)
refusal_of refusals.BodyKind = found.Refusal.body_kind
refusal_of refusals.RuleHead = found.Refusal.rule_head

-- the code's path has the innermost part first
abbrev pub halt_of : Halt → found.Stop
halt_of (halts.Refused path why) = found.Stop.refused (reverse path) (refusal_of why)
halt_of (halts.Spent t) = found.Stop.spent (term_of t)
halt_of halts.Unbound = found.Stop.unbound

-- want of memory, or this stop
abbrev pub IsStop : found.Stop → Stop → Type 0
IsStop s stops.Memory = Unit {0}
IsStop s (stops.Halted h) = halt_of h ≡ s

-- want of memory, or the stop that is found
abbrev pub Stopped : {A : Type 0} → found.Found A → Stop → Type 0
Stopped m stops.Memory = Unit {0}
Stopped m (stops.Halted h) = m ≡ found.Found.stops (halt_of h)

-- the code tells what is found
abbrev pub Tells : {A B : Type 0} → (A → B) → found.Found B → Result A Stop → Type 0
Tells view m (Ok x) = m ≡ found.Found.gives (view x)
Tells view m (Err e) = Stopped m e

-- the stop, in the part of that number
abbrev pub IsInPart : ℕ → Stop → Stop → Type 0
IsInPart i e r = (s : found.Stop) → IsStop s e → IsStop (found.in_part i s) r

-- the same answer, or the stop in the part of that number
abbrev pub InPart : {A : Type 0} → ℕ → Result A Stop → Result A Stop → Type 0
InPart i (Ok x) r = r ≡ Ok x
InPart i (Err e) r = (d : Stop) × (r ≡ Err d) × IsInPart i e d

-- the variables of the types, the first one with the number n
abbrev pub binding : ℕ → typing.Context → List plain.Lp → typing.Context
binding n g [] = g
binding n g (t ∷ ts) = binding (suc n) (typing.Context.bind n t g) ts

-- the variables of the types, numbered from 0
abbrev pub context_of : List Lp → typing.Context
context_of ts = binding 0 typing.Context.empty (terms_of ts)

-- the last c of d variables, the last one first
abbrev pub variables : ℕ → ℕ → List plain.Lp
variables d zero = []
variables zero (suc c) = []
variables (suc d) (suc c) = plain.Lp.free d ∷ variables d c

abbrev pub classes_of : Class × Class → typing.Class × typing.Class
classes_of p = (class_of p.0, class_of p.1)

-- the normal forms of two classes, the first one first
abbrev pub normal_classes : List Entry → ℕ → ℕ → typing.Class → typing.Class → found.Found (typing.Class × typing.Class)
normal_classes sigma limit n c d =
    found.and_then (normal_class sigma limit n c) (λ m. found.and_then (normal_class sigma limit n d) (λ k. found.Found.gives (m, k)))
