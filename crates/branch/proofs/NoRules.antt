-- Without rules nothing has a step, and each formula is its own normal form.
use Rattle.std.proofs.Common.{◌≡◌, ℕ, refl, subst, []}
use Rattle.zm_logic.proofs.Identity.{no_step}
use Rattle.zm_logic.specs.Tree.{Form}
use Rattle.zm_logic.specs.Typing.{IsSignature}
use Rattle.zm_logic.specs.Rewriting.{Step}
use Rattle.branch.specs.Setting.{Setting}
use Rattle.branch.specs.Normal.{Made, NormalizesFrom}
use Rattle.branch.specs.Sound.{IsSound}
use Rattle.zm_logic.proofs.Innermost.{innermost_step}

pub its_own : {from : Form} {n : ℕ} {f : Form} {x : Made Form} → NormalizesFrom [] from n f x → x ≡ Made.made f
its_own (NormalizesFrom.done h) = refl
its_own (NormalizesFrom.step {f = f} {g = g} i b r) = absurd (no_step (innermost_step [] i))
its_own (NormalizesFrom.too_deep {f = f} {g = g} i b) = absurd (no_step (innermost_step [] i))
its_own (NormalizesFrom.spent {f = f} {g = g} i) = absurd (no_step (innermost_step [] i))

pub itself : (from : Form) (n : ℕ) (f : Form) → NormalizesFrom [] from n f (Made.made f)
itself from n f = NormalizesFrom.done (λ g h. no_step h)

pub sound_without_rules : (s : Setting) → IsSignature s.symbols → s.rules ≡ [] → IsSound s
sound_without_rules s sig e = record {
  signature = sig;
  typed = λ f g h. absurd (no_step (subst (λ r. Step r f g) e h));
  parameters = λ f g h. absurd (no_step (subst (λ r. Step r f g) e h));
  determined = λ f x y w h k.
      let i = its_own (subst (λ r. NormalizesFrom r f s.rewrites f x) e h) in
      let j = its_own (subst (λ r. NormalizesFrom r f s.rewrites f y) e k) in cc;
}
