-- What is kept of the tables of a store.
use Rattle.std.specs.Prelude.{ℕ, ◌≡◌, ◌≤◌, List, length, map, All}
use Rattle.zm_logic.specs.Measure.{type_depth, term_depth, depth}
use Rattle.term_store.specs.Table.{AllFit}
use Rattle.term_store.specs.declared.node.TyNode.{TyNode}
use Rattle.term_store.specs.declared.node.TermNode.{TermNode}
use Rattle.term_store.specs.declared.node.FormNode.{FormNode}
use Rattle.term_store.specs.Node.{TypeFits, TermFits, FormFits}
use Rattle.term_store.specs.Trees.{trees_of, AreAllDistinct}

-- a node's parts come before it, no tree stands twice, and beside each node stands its tree's depth, at most 2,000
pub record IsSound (ts : List TyNode) (ds : List ℕ) (us : List TermNode) (es : List ℕ) (fs : List FormNode) (gs : List ℕ) : Type 0 where
  pub types_fit : AllFit TypeFits 0 ts
  pub terms_fit : AllFit (TermFits (length ts)) 0 us
  pub forms_fit : AllFit (FormFits (length ts) (length us)) 0 fs
  pub shared : AreAllDistinct (trees_of ts us fs)
  pub type_depths : ds ≡ map type_depth (trees_of ts us fs).types
  pub term_depths : es ≡ map term_depth (trees_of ts us fs).terms
  pub form_depths : gs ≡ map depth (trees_of ts us fs).forms
  pub types_bounded : All (λ d. d ≤ 2000) ds
  pub terms_bounded : All (λ d. d ≤ 2000) es
  pub forms_bounded : All (λ d. d ≤ 2000) gs
