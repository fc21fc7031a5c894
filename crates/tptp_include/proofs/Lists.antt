-- Lists of statements, and of what they stand for.
use Rattle.std.proofs.Common.{◌≡◌, ℕ, Option, Some, None, find, Bool, true, false, cond, ◌||◌, refl, ◌∙◌, ap, sym, List, [], ◌∷◌, ◌++◌, map, filter}
use Rattle.std.specs.List.{AllByRecursion, list_any}
use Rattle.tptp_reader.specs.Raw.{Name}
use Rattle.tptp_include.specs.declared.gathered.GatheredStatement.{GatheredStatement}
use Rattle.tptp_include.specs.Gathering.{Placed, Outcome, IsGathered, has_name, has_a_name, is_absent, kept, selected}
use Rattle.tptp_include.specs.Outcomes.{placed_of}

pub any_placed : (name : Name) (list : List GatheredStatement) →
    list_any (λ g. has_name name (placed_of g)) list ≡ list_any (has_name name) (map placed_of list)
any_placed name [] = refl
any_placed name (g ∷ list) = ap (λ b. has_name name (placed_of g) || b) (any_placed name list)

chosen_placed : (b : Bool) (g : GatheredStatement) (xs ys : List GatheredStatement) →
    map placed_of (cond b (g ∷ xs) ys) ≡ cond b (placed_of g ∷ map placed_of xs) (map placed_of ys)
chosen_placed true g xs ys = refl
chosen_placed false g xs ys = refl

pub filter_placed : (names : List Name) (list : List GatheredStatement) →
    map placed_of (filter (λ g. has_a_name names (placed_of g)) list) ≡ filter (has_a_name names) (map placed_of list)
filter_placed names [] = refl
filter_placed names (g ∷ list) =
    let test = has_a_name names (placed_of g) in
    chosen_placed test g _ _ ∙ ap (λ rest. cond test (placed_of g ∷ rest) rest) (filter_placed names list)

all_chosen : (b : Bool) (p : Placed) (list : List Placed) → IsGathered p → AllByRecursion IsGathered list →
    AllByRecursion IsGathered (cond b (p ∷ list) list)
all_chosen true p list h hs = (h, hs)
all_chosen false p list h hs = hs

-- what is kept of a list is of its kind
pub all_filtered : (test : Placed → Bool) (list : List Placed) → AllByRecursion IsGathered list →
    AllByRecursion IsGathered (filter test list)
all_filtered test [] h = h
all_filtered test (p ∷ list) h = all_chosen (test p) p (filter test list) h.0 (all_filtered test list h.1)

pub all_appended : (xs ys : List Placed) → AllByRecursion IsGathered xs → AllByRecursion IsGathered ys →
    AllByRecursion IsGathered (xs ++ ys)
all_appended [] ys h k = k
all_appended (x ∷ xs) ys h k = (h.0, all_appended xs ys h.1 k)

-- Where no name is absent, the statements with one of the names are kept.
pub kept_named : (asked : Option (List Name)) (names : List Name) (list chosen : List GatheredStatement) (count : ℕ) →
    asked ≡ Some names → find (is_absent (map placed_of list)) names ≡ None →
    chosen ≡ filter (λ g. has_a_name names (placed_of g)) list →
    kept asked (Outcome.gathered (map placed_of list) count) ≡ Outcome.gathered (map placed_of chosen) count
kept_named asked names list chosen count is none same =
    ap (λ a. kept a (Outcome.gathered (map placed_of list) count)) is
    ∙ ap (selected names (map placed_of list) count) none
    ∙ ap (λ l. Outcome.gathered l count) (sym (ap (map placed_of) same ∙ filter_placed names list))
