-- Facts of all members of a list.
use Rattle.std.proofs.Common.{List, Contains, All, get_or}
use Rattle.std.proofs.lemmas.List.Elements.{All-contains_itself}

pub all_within : {A : Type 0} (P : A → Type 0) (xs : List A) → ((x : A) → Contains xs x → P x) → All P xs
all_within P xs h = λ k d l. h (get_or xs k d) (All-contains_itself xs k d l)
