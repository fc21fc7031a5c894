-- What is printed of a file, part by part, and what is asked of each part.
use Rattle.std.specs.Prelude.{ℕ, suc, ◌+◌, ◌<◌, List, [], ◌∷◌, ◌++◌, length, codes}
use Rattle.lp_terms.specs.Term.{Lp, IsClosedAt}
use Rattle.lp_terms.specs.Signature.{Entry}
use Rattle.lp_terms.specs.Measure.{binder_depth, limit}
use Rattle.dk_text.specs.Text.{term_text, binder_text, bindings_text, entry_text}

-- the term can be printed where d binders stand round it
pub record IsPrintable (d : ℕ) (t : Lp) : Type 0 where
  pub below : IsClosedAt d t
  pub room : d + binder_depth t < limit

-- so can each type of a context, in the scope of those before it
abbrev pub ArePrintable : ℕ → List Lp → Type 0
ArePrintable d [] = Unit {0}
ArePrintable d (a ∷ context) = IsPrintable d a × ArePrintable (suc d) context

-- so can each part of an entry
abbrev pub IsPrintableEntry : Entry → Type 0
IsPrintableEntry (Entry.declare name definable a) = IsPrintable 0 a
IsPrintableEntry (Entry.define name a b) = IsPrintable 0 a × IsPrintable 0 b
IsPrintableEntry (Entry.rule context a b) = ArePrintable 0 context × IsPrintable (length context) a × IsPrintable (length context) b

-- a term and what stands behind it
abbrev pub ended_text : ℕ → Lp → List ℕ → List ℕ
ended_text d t end = term_text d t ++ end

-- a name, its type and what stands behind it
abbrev pub typed_text : List ℕ → Lp → List ℕ → List ℕ
typed_text name a end = (name ++ codes " : ") ++ ended_text 0 a end

-- a context variable
abbrev pub binding_text : ℕ → Lp → List ℕ
binding_text d a = binder_text d ++ term_text d a

-- a context in its brackets, and a space
abbrev pub context_text : List Lp → List ℕ
context_text context = codes "[" ++ (bindings_text 0 context ++ codes "] ")

-- an entry and the end of its line
abbrev pub line_text : Entry → List ℕ
line_text e = entry_text e ++ codes "\n"
