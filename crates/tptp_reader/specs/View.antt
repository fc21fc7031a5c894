-- The trees that the program's values stand for.
use Rattle.std.specs.Prelude.{List, [], ◌∷◌, map}
use Rattle.std.specs.Option.{option_map}
use Rattle.tptp_reader.specs.declared.tree.RawType.{RawType, fold-RawType}
use Rattle.tptp_reader.specs.declared.tree.RawType.TheOpen as type_layer
use Rattle.tptp_reader.specs.declared.tree.RawTerm.{RawTerm, fold-RawTerm}
use Rattle.tptp_reader.specs.declared.tree.RawTerm.TheOpen as term_layer
use Rattle.tptp_reader.specs.declared.tree.RawForm.{RawForm, fold-RawForm}
use Rattle.tptp_reader.specs.declared.tree.RawForm.TheOpen as form_layer
use Rattle.tptp_reader.specs.declared.tree.RawVar.{RawVar}
use Rattle.tptp_reader.specs.declared.tree.RawTop.{RawTop}
use Rattle.tptp_reader.specs.declared.statement.Body.{Body}
use Rattle.tptp_reader.specs.declared.statement.Body.TheVariants as bodies
use Rattle.tptp_reader.specs.declared.statement.Statement.{Statement}
use Rattle.tptp_reader.specs.Raw as raw
use Rattle.tptp_reader.specs.Raw.{Connective, Quantifier}

abbrev pub raw_types_of : List raw.RawType → raw.RawTypes
raw_types_of [] = raw.RawTypes.none
raw_types_of (t ∷ ts) = raw.RawTypes.more t (raw_types_of ts)

abbrev pub raw_terms_of : List raw.RawTerm → raw.RawTerms
raw_terms_of [] = raw.RawTerms.none
raw_terms_of (u ∷ us) = raw.RawTerms.more u (raw_terms_of us)

-- one level of a tree, with the trees inside it already seen
abbrev pub step_of_raw_type : type_layer.RawType-F raw.RawType → raw.RawType
step_of_raw_type type_layer.Individual = raw.RawType.individual
step_of_raw_type type_layer.Truth = raw.RawType.truth
step_of_raw_type type_layer.Kind = raw.RawType.kind
step_of_raw_type (type_layer.Var x) = raw.RawType.variable x
step_of_raw_type (type_layer.Name c ts) = raw.RawType.named c (raw_types_of ts)

abbrev pub raw_type_tree : RawType → raw.RawType
raw_type_tree = fold-RawType raw.RawType step_of_raw_type

abbrev pub raw_types_tree : List RawType → raw.RawTypes
raw_types_tree ts = raw_types_of (map raw_type_tree ts)

abbrev pub step_of_raw_term : term_layer.RawTerm-F raw.RawTerm → raw.RawTerm
step_of_raw_term term_layer.Individual = raw.RawTerm.individual
step_of_raw_term term_layer.Truth = raw.RawTerm.truth
step_of_raw_term (term_layer.Var x) = raw.RawTerm.variable x
step_of_raw_term (term_layer.Name f us) = raw.RawTerm.named f (raw_terms_of us)

abbrev pub raw_term_tree : RawTerm → raw.RawTerm
raw_term_tree = fold-RawTerm raw.RawTerm step_of_raw_term

abbrev pub raw_terms_tree : List RawTerm → raw.RawTerms
raw_terms_tree us = raw_terms_of (map raw_term_tree us)

abbrev pub raw_variable_tree : RawVar → raw.RawVariable
raw_variable_tree v = record { name = v.name; type = option_map raw_type_tree v.ty }

abbrev pub step_of_raw_form : form_layer.RawForm-F raw.RawForm → raw.RawForm
step_of_raw_form form_layer.True = raw.RawForm.truth
step_of_raw_form form_layer.False = raw.RawForm.falsity
step_of_raw_form (form_layer.Plain u) = raw.RawForm.plain (raw_term_tree u)
step_of_raw_form (form_layer.Equal a b) = raw.RawForm.equal (raw_term_tree a) (raw_term_tree b)
step_of_raw_form (form_layer.Not f) = raw.RawForm.negation f
step_of_raw_form (form_layer.And f g) = raw.RawForm.binary Connective.conjunction f g
step_of_raw_form (form_layer.Or f g) = raw.RawForm.binary Connective.disjunction f g
step_of_raw_form (form_layer.Imp f g) = raw.RawForm.binary Connective.implication f g
step_of_raw_form (form_layer.Iff f g) = raw.RawForm.binary Connective.equivalence f g
step_of_raw_form (form_layer.All v f) = raw.RawForm.quantified Quantifier.universal (raw_variable_tree v) f
step_of_raw_form (form_layer.Ex v f) = raw.RawForm.quantified Quantifier.existential (raw_variable_tree v) f

abbrev pub raw_form_tree : RawForm → raw.RawForm
raw_form_tree = fold-RawForm raw.RawForm step_of_raw_form

abbrev pub raw_top_tree : RawTop → raw.RawTop
raw_top_tree t = record { binders = map raw_variable_tree t.binders; arguments = raw_types_tree t.arguments; result = raw_type_tree t.result }

abbrev pub body_tree : Body → raw.RawStatement
body_tree (bodies.Formula name role form) = raw.RawStatement.formula name role (raw_form_tree form)
body_tree (bodies.Typing name subject declared) = raw.RawStatement.typing name subject (raw_top_tree declared)
body_tree (bodies.Include file names) = raw.RawStatement.inclusion file names

-- the statement that a statement of the program stands for; its place is no part of it
abbrev pub statement_tree : Statement → raw.RawStatement
statement_tree s = body_tree s.body
