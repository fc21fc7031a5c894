-- What holds of an answer, where memory wasn't wanting.
use Rattle.std.specs.Prelude.{ℕ, ◌<◌, Result, Ok, Err, Option, Some, None}
use Rattle.zm_logic.specs.Tree.{Form}
use Rattle.zm_logic.specs.Measure.{depth}
use Rattle.term_store.specs.Trees.{Tables, form_of}
use Rattle.term_store.specs.declared.ids.FormId.{FormId}
use Rattle.normaliser.specs.NormalForm.{Answer}
use Rattle.normaliser.specs.declared.normalising.NormalStop.{NormalStop}
use Rattle.normaliser.specs.declared.normalising.NormalStop.TheVariants as stops

-- the tree of an id, where there is one
abbrev pub some_tree : Tables → Option FormId → Option Form
some_tree s None = None
some_tree s (Some i) = Some (form_of s i)

-- there is a formula, and it is deeper than 2,000
abbrev pub IsTooDeep : Option Form → Type 0
IsTooDeep None = ⊥
IsTooDeep (Some f) = 2000 < depth f

-- the answer over the trees of a store
abbrev pub IfStopped : Tables → (Answer Form → Type 0) → NormalStop → Type 0
IfStopped s P stops.Memory = Unit {0}
IfStopped s P (stops.Spent i) = P Answer.spent
IfStopped s P (stops.Deep i) = P (Answer.deep (form_of s i))

abbrev pub IfAnswered : Tables → (Answer Form → Type 0) → Result (FormId × ℕ) NormalStop → Type 0
IfAnswered s P (Ok r) = P (Answer.reached (form_of s r.0) r.1)
IfAnswered s P (Err e) = IfStopped s P e

-- what holds of the formula that is named
abbrev pub IfDeepAt : (FormId → Type 0) → NormalStop → Type 0
IfDeepAt P stops.Memory = Unit {0}
IfDeepAt P (stops.Spent i) = Unit {0}
IfDeepAt P (stops.Deep i) = P i

abbrev pub IfSpentFrom : (FormId → Type 0) → NormalStop → Type 0
IfSpentFrom P stops.Memory = Unit {0}
IfSpentFrom P (stops.Spent i) = P i
IfSpentFrom P (stops.Deep i) = Unit {0}
