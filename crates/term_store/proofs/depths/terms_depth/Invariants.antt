use Rattle.std.proofs.Common.{◌≡◌, ◌≤◌, take}
use Rattle.indexmap.specs.IndexMap.{values}
use Rattle.term_store.specs.Depth.{greatest_term}
use Rattle.term_store.proofs.depths.terms_depth.Given as goal

abbrev pub invariant-loop-id : goal.invariant-loop-id
invariant-loop-id l = (l.all ≡ greatest_term (values l.terms) (take l.id-index l.ids)) × (l.all ≤ 2000)
