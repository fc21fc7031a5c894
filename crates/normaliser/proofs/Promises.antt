-- The laws of normal forms.
use Rattle.std.proofs.Common.{◌≡◌, sym, ◌∙◌, subst, Option, Some}
use Rattle.zm_logic.specs.Tree.{Form}
use Rattle.normaliser.specs.Laws as laws
use Rattle.normaliser.specs.Meaning.{Meets}
use Rattle.rule_index.proofs.Scope.{typed_is_scoped}
use Rattle.rule_select.proofs.Selected.{steps_keep_typing}
use Rattle.rule_index.proofs.Promises.{selected_rules_are_usable}
use Rattle.normaliser.proofs.Agrees.{none_is_normal, next_step_is, step_is_next, normal_is_none}
use Rattle.normaliser.proofs.Evaluated.{by_parts_is_normal_form}
use Rattle.normaliser.proofs.Memo.{knows_stays}
use Rattle.normaliser.proofs.Meets.{normal_form_meets, meets_is_normal_form}

pub next_step_is_innermost : laws.NextStepIsInnermost
next_step_is_innermost symbols rules f g ok w =
    let s = typed_is_scoped symbols w in (next_step_is rules ok f g s, λ h. step_is_next rules ok h s)

pub no_next_step_where_normal : laws.NoNextStepWhereNormal
no_next_step_where_normal symbols rules f ok w =
    let s = typed_is_scoped symbols w in (none_is_normal rules ok f s, normal_is_none rules ok f s)

pub innermost_step_is_determined : laws.InnermostStepIsDetermined
innermost_step_is_determined symbols rules f g h ok w x y =
    let s = typed_is_scoped symbols w in
    let e : ◌≡◌ {A = Option Form} (Some g) (Some h) = sym (step_is_next rules ok x s) ∙ step_is_next rules ok y s in cc

pub normal_form_meets_the_steps : laws.NormalFormMeetsTheSteps
normal_form_meets_the_steps symbols rules limit f a ok keep w d = (
  meets_is_normal_form symbols rules ok keep limit f a w d,
  λ e. subst (Meets rules limit f) (sym e) (normal_form_meets symbols rules ok keep limit f w d),
)

pub parts_first_agrees : laws.PartsFirstAgrees
parts_first_agrees rules limit f d = by_parts_is_normal_form rules limit f d

pub selected_rules_keep_typing : laws.SelectedRulesKeepTyping
selected_rules_keep_typing p s typed selects =
    (selected_rules_are_usable p s typed selects, λ f g step w. (steps_keep_typing p s f g typed selects w step).0)

pub kept_forms_stay : laws.KeptFormsStay
kept_forms_stay s t n x h = knows_stays s t n x h
