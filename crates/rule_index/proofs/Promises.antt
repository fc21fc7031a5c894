-- The laws of matching.
use Rattle.std.proofs.Common.{sym, ◌∙◌, List, [], ◌∷◌}
use Rattle.std.specs.List.{Contains}
use Rattle.zm_logic.specs.Tree.{Rule, Symbol}
use Rattle.zm_logic.proofs.Sames.{Contains-here, Contains-there}
use Rattle.rule_select.specs.Sound.{IsSound}
use Rattle.rule_select.proofs.Selected.{selected_rules_are_sound}
use Rattle.rule_index.specs.Laws as laws
use Rattle.rule_index.specs.Usable.{AreUsable}
use Rattle.rule_index.proofs.Matched.{match_is_sound, match_is_complete, parts_are_determined}
use Rattle.rule_index.proofs.First.{first_match_is_first, first_is_first_match, no_match_is_none, none_is_no_match}
use Rattle.rule_index.proofs.ClosedParts.{put_is_instance, parts_are_closed, closed_parts_fit, fit_is_of}
use Rattle.rule_index.proofs.Redex.{rewrites_is, is_rewrites, first_is, is_first}
use Rattle.rule_index.proofs.Sound.{sound_is_usable}

pub matching_finds_the_parts : laws.MatchingFindsTheParts
matching_finds_the_parts bs left x os l = (match_is_sound bs left x os, match_is_complete bs left x os l)

pub one_list_of_parts : laws.PartsAreDetermined
one_list_of_parts bs left x os ps l m n = parts_are_determined bs left x os ps l m n

pub first_match_is_the_least : laws.FirstMatchIsTheLeast
first_match_is_the_least rules x m ok = (first_match_is_first rules ok x m, λ f. first_is_first_match ok f)

pub no_match_where_none_fits : laws.NoMatchWhereNoneFits
no_match_where_none_fits rules x ok = (no_match_is_none rules ok x, none_is_no_match rules x)

pub matches_are_instances : laws.MatchesAreInstances
matches_are_instances r x os ok c = (
  (λ m. let k = parts_are_closed r.binders r.left x os ok.left m c in
      (closed_parts_fit os r.binders m.kinds k, sym (put_is_instance os k r.left) ∙ m.instance)),
  (λ f. let k = fit_is_of f.0 in record { kinds = k.0; instance = put_is_instance os k.1 r.left ∙ f.1 }),
)

pub matching_rewrites : laws.MatchingRewrites
matching_rewrites r x y ok c = (is_rewrites r ok x y c, rewrites_is r ok x y)

pub first_match_rewrites : laws.FirstMatchRewrites
first_match_rewrites rules x y ok c = (first_is rules ok x y c, λ h. is_first ok c h)

sound_are_usable : (symbols : List Symbol) (rules : List Rule) → ((r : Rule) → Contains rules r → IsSound symbols r) → AreUsable rules
sound_are_usable symbols [] h = tt
sound_are_usable symbols (r ∷ rules) h =
    (sound_is_usable symbols r (h r (Contains-here r rules)), sound_are_usable symbols rules (λ q m. h q (Contains-there r rules q m)))

pub selected_rules_are_usable : laws.SelectedRulesAreUsable
selected_rules_are_usable p s typed selects = sound_are_usable p.symbols s.rules (λ r m. selected_rules_are_sound p s r typed selects m)
