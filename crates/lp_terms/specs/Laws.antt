-- What the definitions promise of one another. Each statement is the contract of a function of the module laws.
use Rattle.std.specs.Prelude.{ℕ, ◌≡◌, ◌↔◌, List}
use Rattle.lp_terms.specs.Term.{Lp, opened, closed, substitute, only, IsClosed, IsFresh}
use Rattle.lp_terms.specs.Signature.{Entry, Extends, SignatureHasNoFree}
use Rattle.lp_terms.specs.Reduction.{Reduces, Converts}
use Rattle.lp_terms.specs.Typing.{Context, Class, IsWithin, IsUnbound, IsNew, Has, IsContext, IsSorted, substitute_class}
use Rattle.lp_terms.specs.PlainTyping.{PlainReduces, PlainConverts, PlainHas}
use Rattle.lp_terms.specs.WellFormed.{IsWellFormed}
use Rattle.lp_terms.specs.Worked.{implications, identity, prf, imp, p}

-- closing on a variable that doesn't occur undoes opening at it
abbrev pub ClosingUndoesOpening : Type 0
ClosingUndoesOpening = (t : Lp) (x : ℕ) → IsFresh x t → closed x (opened t (Lp.free x)) ≡ t

-- opening what was closed on a variable puts a term for the variable
abbrev pub OpeningClosedSubstitutes : Type 0
OpeningClosedSubstitutes = (t u : Lp) (x : ℕ) → IsClosed t → opened (closed x t) u ≡ substitute (only x u) t

-- no free variable occurs in a well-formed signature
abbrev pub WellFormedHasNoFree : Type 0
WellFormedHasNoFree = (sigma : List Entry) → IsWellFormed sigma → SignatureHasNoFree sigma

-- weakening of the context
abbrev pub ContextsWeaken : Type 0
ContextsWeaken = (sigma : List Entry) (g h : Context) (t : Lp) (c : Class) → IsWithin g h → Has sigma g t c → Has sigma h t c

-- weakening of the signature
abbrev pub SignaturesWeaken : Type 0
SignaturesWeaken = (sigma tau : List Entry) (g : Context) (t : Lp) (c : Class) → Extends sigma tau → Has sigma g t c → Has tau g t c

-- a typed term has no loose index, and no free variable but those of its context
abbrev pub TypedTermsAreClosed : Type 0
TypedTermsAreClosed = (sigma : List Entry) (g : Context) (t : Lp) (c : Class) → Has sigma g t c → IsClosed t

abbrev pub TypedTermsHoldTheirContext : Type 0
TypedTermsHoldTheirContext =
    (sigma : List Entry) (g : Context) (t : Lp) (c : Class) (x : ℕ) → IsUnbound x g → Has sigma g t c → IsFresh x t

-- a term of the variable's type, put for the last variable of the context, keeps types
abbrev pub SubstitutionKeepsTyping : Type 0
SubstitutionKeepsTyping =
    (sigma : List Entry) (g : Context) (x : ℕ) (a u t : Lp) (c : Class) → IsWellFormed sigma → IsNew x g
    → Has sigma g a (Class.of Lp.sort) → Has sigma g u (Class.of a) → Has sigma (Context.bind x a g) t c
    → Has sigma g (substitute (only x u) t) (substitute_class (only x u) c)

-- what a term has is Kind or has a sort
abbrev pub TypesHaveSorts : Type 0
TypesHaveSorts =
    (sigma : List Entry) (g : Context) (t : Lp) (c : Class) → IsWellFormed sigma → IsContext sigma g → Has sigma g t c
    → IsSorted sigma g c

-- one variable that occurs nowhere else, or every variable from some number on: the same reductions, conversions and typings
abbrev pub PlainReductionIsReduction : Type 0
PlainReductionIsReduction =
    (sigma : List Entry) (t u : Lp) → SignatureHasNoFree sigma → PlainReduces sigma t u ↔ Reduces sigma t u

abbrev pub PlainConversionIsConversion : Type 0
PlainConversionIsConversion =
    (sigma : List Entry) (t u : Lp) → SignatureHasNoFree sigma → PlainConverts sigma t u ↔ Converts sigma t u

abbrev pub PlainTypingIsTyping : Type 0
PlainTypingIsTyping =
    (sigma : List Entry) (g : Context) (t : Lp) (c : Class) → SignatureHasNoFree sigma → PlainHas sigma g t c ↔ Has sigma g t c

-- the worked signature is well formed, and the identity proves that p implies p
abbrev pub ImplicationsAreWellFormed : Type 0
ImplicationsAreWellFormed = IsWellFormed implications

abbrev pub IdentityIsTyped : Type 0
IdentityIsTyped = Has implications Context.empty identity (Class.of (prf (imp p p)))
