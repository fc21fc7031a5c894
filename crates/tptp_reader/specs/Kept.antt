-- What is kept of a formula: no formula deeper than a limit is ever made.
use Rattle.std.specs.Prelude.{◌≡◌, ℕ, ◌+◌, max, nat_le, cond, Bool, Option, Some, None, Result, Ok, Err}
use Rattle.tptp_reader.specs.declared.built.Built as outcomes
use Rattle.tptp_reader.specs.declared.built.Built.TheVariants as variants
use Rattle.tptp_reader.specs.declared.built.Joint.{Joint}
use Rattle.tptp_reader.specs.declared.built.Joint.TheVariants as joints
use Rattle.tptp_reader.specs.declared.cursor.ParseStop.{ParseStop}
use Rattle.tptp_reader.specs.declared.cursor.ParseStop.TheVariants.{Syntax, Memory}
use Rattle.tptp_reader.specs.declared.parse.Parsed.{Parsed}
use Rattle.tptp_reader.specs.declared.parse.Parsed.TheVariants as parses
use Rattle.tptp_reader.specs.Raw.{RawForm, RawStatement, Connective, raw_term_depth, written_depth, raw_depth}
use Rattle.tptp_reader.specs.View.{raw_form_tree, body_tree}
use Rattle.tptp_reader.specs.SlowForms.{Values}

-- the formulas themselves
abbrev pub forms : Values RawForm
forms = record {
  of_truth = RawForm.truth;
  of_falsity = RawForm.falsity;
  of_plain = RawForm.plain;
  of_equal = RawForm.equal;
  of_not = RawForm.negation;
  of_join = RawForm.binary;
  of_bound = RawForm.quantified;
}

-- A formula with its depth, or that it is deeper than the limit.
pub data Kept : Type 0 where
  whole : RawForm → ℕ → Kept
  too_deep : Kept

abbrev pub kept_at : ℕ → RawForm → ℕ → Kept
kept_at limit f depth = cond (nat_le depth limit) (whole f depth) too_deep

-- a formula with one part, beside which something so deep may stand
abbrev pub kept_one : ℕ → (RawForm → RawForm) → ℕ → Kept → Kept
kept_one limit make beside (whole f m) = kept_at limit (make f) (1 + max beside m)
kept_one limit make beside too_deep = too_deep

abbrev pub kept_two : ℕ → (RawForm → RawForm → RawForm) → Kept → Kept → Kept
kept_two limit make (whole f m) (whole g n) = kept_at limit (make f g) (1 + max m n)
kept_two limit make too_deep b = too_deep
kept_two limit make (whole f m) too_deep = too_deep

abbrev pub keeps : ℕ → Values Kept
keeps limit = record {
  of_truth = kept_at limit RawForm.truth 1;
  of_falsity = kept_at limit RawForm.falsity 1;
  of_plain = λ u. kept_at limit (RawForm.plain u) (raw_term_depth u);
  of_equal = λ a b. kept_at limit (RawForm.equal a b) (1 + max (raw_term_depth a) (raw_term_depth b));
  of_not = kept_one limit RawForm.negation 0;
  of_join = λ c. kept_two limit (RawForm.binary c);
  of_bound = λ q v. kept_one limit (RawForm.quantified q v) (written_depth v.type);
}

-- what is kept of a formula
abbrev pub kept : ℕ → RawForm → Kept
kept limit f = kept_at limit f (raw_depth f)

-- formulas up to a depth of 1000
abbrev pub limited : Values Kept
limited = keeps 1000

abbrev pub kept_tree : outcomes.Built → Kept
kept_tree (variants.Whole f n) = whole (raw_form_tree f) n
kept_tree variants.TooDeep = too_deep

abbrev pub joint_connective : Joint → Connective
joint_connective joints.And = Connective.conjunction
joint_connective joints.Or = Connective.disjunction
joint_connective joints.Imp = Connective.implication
joint_connective joints.Iff = Connective.equivalence

-- What a function returned is what is made, unless memory ran out.
abbrev pub Makes : {T A : Type 0} → (T → A) → Result T ParseStop → Option A → Type 0
Makes view (Ok x) made = made ≡ Some (view x)
Makes view (Err Syntax) made = made ≡ None
Makes view (Err Memory) made = Unit {0}

-- What a function decided is so, unless memory ran out.
abbrev pub Decides : Result Bool ParseStop → Bool → Type 0
Decides (Ok b) is = is ≡ b
Decides (Err Syntax) is = ⊥
Decides (Err Memory) is = Unit {0}

-- the statement that was parsed, or none where its formula is too deep
abbrev pub parsed_tree : Parsed → Option RawStatement
parsed_tree (parses.Body body) = Some (body_tree body)
parsed_tree parses.TooDeep = None
