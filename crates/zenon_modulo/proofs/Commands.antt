-- What words are, by their first ones.
use Rattle.std.proofs.Common.{◌≡◌, ◌<◌, ◌≤◌, ℕ, [], ◌∷◌, List, map, codes, length, get_or, refl, arith, subst, sym, ap, ◌∙◌, Option, Some, None}
use Rattle.zenon_modulo.specs.Words.{Word, Operand, Command, Misuse, IsOperand, IsMisuse, IsCommand, AreOptions, AllowsSteps, steps_text}

-- the operands of a word are alike: a word that begins with a hyphen and is more than that is none
pub no_operand_of : (word : Word) → (word ≡ codes "-" → ⊥) → get_or word 0 0 ≡ 45 → (operand : Operand) → IsOperand word operand → ⊥
no_operand_of word n e operand IsOperand.hyphen = n refl
no_operand_of word n e operand (IsOperand.name h) = h e

pub source_is : (word : Word) → word ≡ codes "-" → IsOperand word Operand.source
source_is word e = subst (λ w. IsOperand w Operand.source) (sym e) IsOperand.hyphen

pub file_is : (word name : Word) → (get_or word 0 0 ≡ 45 → ⊥) → name ≡ word → IsOperand word (Operand.file name)
file_is word name n e = subst (λ w. IsOperand word (Operand.file w)) (sym e) (IsOperand.name n)

pub command_is : (mode word : Word) (options : List Word) (operand : Operand) (steps : ℕ) → mode ≡ codes "prove" → IsOperand word operand
    → AreOptions options steps → IsCommand (mode ∷ word ∷ options) (Command.prove operand steps)
command_is mode word options operand steps e o a =
    subst (λ m. IsCommand (m ∷ word ∷ options) (Command.prove operand steps)) (sym e) (IsCommand.prove o a)

pub bad_operand_is : (mode word told : Word) (options : List Word) → mode ≡ codes "prove" → ((operand : Operand) → IsOperand word operand → ⊥) → told ≡ word → IsMisuse (mode ∷ word ∷ options) (Misuse.bad_operand told)
bad_operand_is mode word told options e n w =
    subst (λ m. IsMisuse (m ∷ word ∷ options) (Misuse.bad_operand told)) (sym e)
    (subst (λ t. IsMisuse (codes "prove" ∷ word ∷ options) (Misuse.bad_operand t)) (sym w) (IsMisuse.bad_operand n))

pub bad_options_are : (mode word : Word) (options : List Word) (operand : Operand) → mode ≡ codes "prove" → IsOperand word operand → ((steps : ℕ) → AreOptions options steps → ⊥) → IsMisuse (mode ∷ word ∷ options) Misuse.bad_options
bad_options_are mode word options operand e o n = subst (λ m. IsMisuse (m ∷ word ∷ options) Misuse.bad_options) (sym e) (IsMisuse.bad_options o n)

module _ {X : Type 0} (f : X → Word) where
  no_words : (ws : List X) → length ws < 1 → map f ws ≡ []
  no_words [] h = refl
  no_words (x ∷ xs) h = absurd (omega arith)

  pub no_mode_is : (ws : List X) → length ws < 1 → IsMisuse (map f ws) Misuse.no_mode
  no_mode_is ws h = subst (λ words. IsMisuse words Misuse.no_mode) (sym (no_words ws h)) IsMisuse.no_mode

  pub unknown_mode_is : (ws : List X) (d : X) (word : Word) → 1 ≤ length ws → d ≡ get_or ws 0 d → (f d ≡ codes "prove" → ⊥) → word ≡ f d → IsMisuse (map f ws) (Misuse.unknown_mode word)
  unknown_mode_is [] d word h e n w = absurd (omega arith)
  unknown_mode_is (x ∷ xs) d word h e n w =
      subst (λ m. IsMisuse (f x ∷ map f xs) (Misuse.unknown_mode m)) (sym (w ∙ ap f e))
      (IsMisuse.unknown_mode (λ p. n (ap f e ∙ p)))

  pub no_operand_is : (mode word : Word) (ws : List X) → mode ≡ codes "prove" → length ws < 1 → word ≡ mode → IsMisuse (mode ∷ map f ws) (Misuse.no_operand word)
  no_operand_is mode word ws e h w =
      subst (λ m. IsMisuse (mode ∷ map f ws) (Misuse.no_operand m)) (sym (w ∙ e))
      (subst (λ m. IsMisuse (m ∷ map f ws) (Misuse.no_operand (codes "prove"))) (sym e)
      (subst (λ words. IsMisuse (codes "prove" ∷ words) (Misuse.no_operand (codes "prove"))) (sym (no_words ws h)) IsMisuse.no_operand))

-- no command allows more than 1,000,000 Steps
few_allowed : (text : Option Word) (n : ℕ) → AllowsSteps text n → n ≤ 1000000
few_allowed None n a = omega (arith, a)
few_allowed (Some text) n a = a.2

pub few_steps : (words : List Word) (operand : Operand) (steps : ℕ) → IsCommand words (Command.prove operand steps) → steps ≤ 1000000
few_steps words operand steps (IsCommand.prove {options = options} o a) = few_allowed (steps_text options) steps a.steps_allowed
