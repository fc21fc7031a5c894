use Rattle.std.proofs.Common.{◌+◌, ◌*◌, max}
use Rattle.zm_logic.specs.Measure.{depth}
use Rattle.term_store.specs.Trees.{form_of}
use Rattle.term_store.proofs.store.Store.+change_form.Given as goal

abbrev pub decreases-change_form : goal.decreases-change_form
decreases-change_form l = 5 * depth (form_of l.self.now l.id) + 4

abbrev pub decreases-changed_form : goal.decreases-changed_form
decreases-changed_form l = 5 * depth (form_of l.self.now l.id) + 3

abbrev pub decreases-change_not : goal.decreases-change_not
decreases-change_not l = 5 * (1 + depth (form_of l.self.now l.f)) + 2

abbrev pub decreases-change_binary : goal.decreases-change_binary
decreases-change_binary l = 5 * (1 + max (depth (form_of l.self.now l.f)) (depth (form_of l.self.now l.g))) + 2

abbrev pub decreases-change_quantified : goal.decreases-change_quantified
decreases-change_quantified l = 5 * (1 + depth (form_of l.self.now l.f)) + 2

abbrev pub decreases-change_quantified_types : goal.decreases-change_quantified_types
decreases-change_quantified_types l = 5 * (1 + depth (form_of l.self.now l.f)) + 2

abbrev pub decreases-change_two : goal.decreases-change_two
decreases-change_two l = 5 * (1 + max (depth (form_of l.self.now l.f)) (depth (form_of l.self.now l.g)))

abbrev pub decreases-change_body : goal.decreases-change_body
decreases-change_body l = 5 * (1 + depth (form_of l.self.now l.f))
