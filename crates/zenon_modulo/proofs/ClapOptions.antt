-- What clap's answer says of the options of prove.
use Rattle.std.proofs.Common.{◌≡◌, true, List, [], refl, sym, ap, ◌∙◌}
use Rattle.clap.specs.Words.{App, is_simple, is_simple_and_free, fault_of, matches_of, first_of, first_value, found_of, HasMatchesOf}
use Rattle.clap.specs.declared.parser.matches.ArgMatches.{ArgMatches}
use Rattle.clap.proofs.OnLiterals.{clap_on_literals}
use Rattle.clap.proofs.WalkLemmas.{first_value-rows}
use Rattle.std.specs.Prelude.{codes}
use Rattle.zenon_modulo.specs.Words.{Word, prove_options, steps_text}

pub options_simple : is_simple prove_options ≡ true
unfolding clap_on_literals
options_simple = refl

pub options_free : is_simple_and_free prove_options ≡ true
unfolding clap_on_literals
options_free = refl

pub taken_is : (app : App) (ws : List Word) → app ≡ prove_options → (is_simple_and_free app ≡ true → fault_of app ws ≡ []) → fault_of prove_options ws ≡ []
taken_is app ws e h = sym (ap (λ a. fault_of a ws) e) ∙ h (ap is_simple_and_free e ∙ options_free)

pub text_is : (app : App) (ws : List Word) (m : ArgMatches) → app ≡ prove_options → HasMatchesOf app ws m → first_value (found_of m) (codes "steps") ≡ steps_text ws
text_is app ws m e h = first_value-rows (found_of m) (codes "steps") ∙ ap (first_of (codes "steps")) ((h (ap is_simple e ∙ options_simple)).0 ∙ ap (λ a. matches_of a ws) e)
