-- What reading the words gives.
use Rattle.std.specs.Prelude.{ℕ, ◌≢◌, [], List}
use Rattle.clap.specs.Words.{fault_of}
use Rattle.zenon_modulo.specs.declared.words.Operand.{Operand}
use Rattle.zenon_modulo.specs.declared.words.Operand.TheVariants as operands
use Rattle.zenon_modulo.specs.declared.words.Command.{Command}
use Rattle.zenon_modulo.specs.declared.words.Command.TheVariants as commands
use Rattle.zenon_modulo.specs.declared.words.UsageRefusal.{UsageRefusal}
use Rattle.zenon_modulo.specs.declared.words.UsageRefusal.TheVariants as refusals
use Rattle.zenon_modulo.specs.declared.words.WordsStop.{WordsStop}
use Rattle.zenon_modulo.specs.declared.words.WordsStop.TheVariants as stops
use Rattle.zenon_modulo.specs.declared.options.OptionsStop.{OptionsStop}
use Rattle.zenon_modulo.specs.declared.options.OptionsStop.TheVariants as options_stops
use Rattle.zenon_modulo.specs.Words as words
use Rattle.zenon_modulo.specs.Words.{Word, Misuse, IsMisuse, AreOptions, prove_options}

abbrev pub operand_tree : Operand → words.Operand
operand_tree operands.Source = words.Operand.source
operand_tree (operands.File name) = words.Operand.file name

abbrev pub command_tree : Command → words.Command
command_tree (commands.Prove operand steps) = words.Command.prove (operand_tree operand) steps

abbrev pub misuse_of : UsageRefusal → Misuse
misuse_of refusals.NoMode = Misuse.no_mode
misuse_of (refusals.UnknownMode word) = Misuse.unknown_mode word
misuse_of (refusals.NoOperand mode) = Misuse.no_operand mode
misuse_of (refusals.BadOperand word) = Misuse.bad_operand word
misuse_of refusals.BadOptions = Misuse.bad_options

-- the words aren't a command for this cause, unless memory ran out
abbrev pub ExplainsWords : List Word → WordsStop → Type 0
ExplainsWords words (stops.Usage refusal) = IsMisuse words (misuse_of refusal)
ExplainsWords words stops.Memory = Unit {0}

-- clap doesn't take the options, unless memory ran out
abbrev pub ExplainsFault : List Word → OptionsStop → Type 0
ExplainsFault options options_stops.BadOptions = fault_of prove_options options ≢ []
ExplainsFault options options_stops.Memory = Unit {0}

-- the words aren't options, unless memory ran out
abbrev pub ExplainsOptions : List Word → OptionsStop → Type 0
ExplainsOptions options options_stops.BadOptions = (steps : ℕ) → AreOptions options steps → ⊥
ExplainsOptions options options_stops.Memory = Unit {0}
