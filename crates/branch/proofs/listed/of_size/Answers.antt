use Rattle.std.proofs.Common.{◌≡◌, length, refl, ap, ◌∙◌}
use Rattle.branch.specs.declared.listed.Listed.{Listed}
use Rattle.branch.proofs.Making.{is_listed, tree_is}
use Rattle.branch.proofs.listed.of_size.Goals as goal

pub returns-clause-listed : goal.returns-clause-listed
returns-clause-listed c = λ s has sized.
    let r = c.args.raw in
    let slice = c.as_slice.ensures in
    let made : Listed = record {
      offer = record {
        kind = c.args.place.kind;
        children = c.len.result;
        size = c.args.size;
        later = c.args.place.later;
        earlier = c.args.place.earlier;
      };
      act = r.act;
      raw = r.children;
      normal = c.in_ok-normal.normal;
    } in
    is_listed s r made refl (c.in_ok-normal.ensures ∙ slice) has refl c.len.ensures sized

pub returns-clause-tree : goal.returns-clause-tree
returns-clause-tree c = λ s.
    let r = c.args.raw in
    let slice = c.as_slice.ensures in
    let made : Listed = record {
      offer = record {
        kind = c.args.place.kind;
        children = c.len.result;
        size = c.args.size;
        later = c.args.place.later;
        earlier = c.args.place.earlier;
      };
      act = r.act;
      raw = r.children;
      normal = c.in_ok-normal.normal;
    } in
    tree_is s r made refl (c.in_ok-normal.ensures ∙ slice) refl
