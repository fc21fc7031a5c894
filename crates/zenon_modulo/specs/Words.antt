-- The command line: the words that stand behind the program's name, each as the list of its bytes.
--     prove OPERAND [--steps N]
use Rattle.std.specs.Prelude.{ℕ, ◌≡◌, ◌≢◌, ◌≤◌, Bool, true, false, codes, List, [], ◌∷◌, Option, Some, None, get_or}
use Rattle.std.specs.List.{list_any}
use Rattle.std.specs.Str.{bytes_eq}
use Rattle.std.specs.Str.Parse.{IsNumeral, digits_value, without_leading_plus}
use Rattle.clap.specs.Words.{App, Rule, new_app, new_rule, with_rule, fault_of, matches_of, first_of}
use Rattle.clap.specs.declared.builder.action.ArgAction.TheVariants.{Set}

abbrev pub Word : Type 0
Word = List ℕ

-- where the problem is read from: the source, or the file of a name
pub data Operand : Type 0 where
  source : Operand
  file : (name : Word) → Operand

-- what is asked for, by mode: to prove the problem of the operand in at most so many Steps
pub data Command : Type 0 where
  prove : (operand : Operand) (steps : ℕ) → Command

-- - stands for the source; any other word that doesn't begin with a hyphen (45) is the name of a file
pub data IsOperand : Word → Operand → Type 0 where
  hyphen : IsOperand (codes "-") Operand.source
  name : {word : Word} → get_or word 0 0 ≢ 45 → IsOperand word (Operand.file word)

-- the option --steps, which takes one value
abbrev pub steps_rule : Rule
steps_rule = record (new_rule (codes "steps")) { long = Some (codes "steps"); action = Some Set }

-- the options of prove as a command of clap, without a program's name and without flags for help and version
abbrev pub prove_options : App
prove_options =
    let plain = new_app (codes "prove") in
    with_rule (record plain { top = record plain.top { no_binary_name = true; disable_help_flag = true; disable_version_flag = true } }) steps_rule

-- the value that options give to --steps
abbrev pub steps_text : List Word → Option Word
steps_text options = first_of (codes "steps") (matches_of prove_options options)

-- A text is a number where it is decimal digits, one or more, with a plus before them or not.
pub record IsNumber (text : Word) (n : ℕ) : Type 0 where
  pub numeral : IsNumeral 10 (without_leading_plus text)
  pub value : digits_value 10 (without_leading_plus text) ≡ n

-- the Steps that a value of --steps allows: 1 to 1000000; without one they are 100000
abbrev pub AllowsSteps : Option Word → ℕ → Type 0
AllowsSteps None n = n ≡ 100000
AllowsSteps (Some text) n = IsNumber text n × (1 ≤ n) × (n ≤ 1000000)

-- the word that ends options
abbrev pub is_dashes : Word → Bool
is_dashes word = bytes_eq word (codes "--")

-- Options that clap takes, without the word --, and the Steps that they allow.
pub record AreOptions (options : List Word) (steps : ℕ) : Type 0 where
  pub no_dashes : list_any is_dashes options ≡ false
  pub taken : fault_of prove_options options ≡ []
  pub steps_allowed : AllowsSteps (steps_text options) steps

-- the words are a command:  prove OPERAND OPTIONS
pub data IsCommand : List Word → Command → Type 0 where
  prove : {word : Word} {options : List Word} {operand : Operand} {steps : ℕ} → IsOperand word operand
      → AreOptions options steps → IsCommand (codes "prove" ∷ word ∷ options) (Command.prove operand steps)

-- what is wrong with the words
pub data Misuse : Type 0 where
  no_mode : Misuse
  unknown_mode : (word : Word) → Misuse
  no_operand : (mode : Word) → Misuse
  bad_operand : (word : Word) → Misuse
  bad_options : Misuse

-- the first thing that is wrong with words that are no command: the mode, then the operand, then what follows it
pub data IsMisuse : List Word → Misuse → Type 0 where
  no_mode : IsMisuse [] Misuse.no_mode
  unknown_mode : {mode : Word} {more : List Word} → mode ≢ codes "prove" → IsMisuse (mode ∷ more) (Misuse.unknown_mode mode)
  no_operand : IsMisuse (codes "prove" ∷ []) (Misuse.no_operand (codes "prove"))
  bad_operand : {word : Word} {more : List Word} → ((operand : Operand) → IsOperand word operand → ⊥)
      → IsMisuse (codes "prove" ∷ word ∷ more) (Misuse.bad_operand word)
  bad_options : {word : Word} {options : List Word} {operand : Operand} → IsOperand word operand
      → ((steps : ℕ) → AreOptions options steps → ⊥) → IsMisuse (codes "prove" ∷ word ∷ options) Misuse.bad_options
