-- What a chooser sees of listed offers.
use Rattle.std.proofs.Common.{◌≡◌, refl, sym, ◌∙◌, arith, List, [], ◌∷◌, length, map}
use Rattle.term_store.specs.Trees.{Tables}
use Rattle.term_store.specs.declared.ids.FormId.{FormId}
use Rattle.param_store.specs.View.{lists_of}
use Rattle.branch.specs.declared.listed.Listed.{Listed}
use Rattle.branch.specs.Listed.{children_of, listed_of, IsListed, EachListed}
use Rattle.branch.specs.Stepped.{IsSeen, AreSeen}

-- as many children as there are lists before normalising
pub children_length : (s : Tables) (rs ns : List (List FormId)) → length ns ≡ length rs → length (children_of (lists_of s rs) (lists_of s ns)) ≡ length rs
children_length s [] [] e = refl
children_length s [] (n ∷ ns) e = refl
children_length s (r ∷ rs) [] e = absurd (omega (arith, e))
children_length s (r ∷ rs) (n ∷ ns) e = let k = children_length s rs ns (omega (arith, e)) in omega (arith, k)

module _ (s : Tables) where
  is_seen : (l : Listed) → IsListed s l → IsSeen (listed_of s l) l.offer
  is_seen l h = record {
    kind = refl;
    children = h.counted ∙ sym (children_length s l.raw l.normal h.paired);
    size = h.sized;
    later = refl;
    earlier = refl;
  }

  pub are_seen : (ls : List Listed) → EachListed s ls → AreSeen (map (listed_of s) ls) (map (λ l. l.offer) ls)
  are_seen [] h = tt
  are_seen (l ∷ ls) h = (is_seen l h.0, are_seen ls h.1)
