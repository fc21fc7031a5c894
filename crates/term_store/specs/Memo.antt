-- The places of trees under binders.
use Rattle.std.specs.Prelude.{Bool, ◌&&◌, nat_eq}
use Rattle.term_store.specs.declared.memo.Place.{Place}

-- one tree under as many binders
abbrev pub same_place : Place → Place → Bool
same_place p q = nat_eq p.tree q.tree && nat_eq p.binders q.binders
