-- What was read of the source and of a file, at each exit.
use Rattle.std.proofs.Common.{ℕ, ◌≡◌, ◌≢◌, ◌≤◌, ◌<◌, ◌+◌, List, [], length, map, string_bytes, drop, Option, Some, None, IfSome, Result, Err, codes, inl, inr, refl, sym, ap, subst, ◌∙◌, arith}
use Rattle.zm_base.specs.Outside.{Rose, AtEnd, ReadsAtMost}
use Rattle.zm_base.specs.Library.{NamedFile, file_of}
use Rattle.tptp_include.specs.declared.refusal.GatherRefusal.TheVariants as gather
use Rattle.tptp_include.specs.Gathering.{Refusal}
use Rattle.zenon_modulo.specs.declared.outcome.Outcome.{Outcome}
use Rattle.zenon_modulo.specs.declared.outcome.Outcome.TheVariants.{ReadFault, LibraryFault, Memory}
use Rattle.zenon_modulo.specs.declared.outcome.InputRefusal.TheVariants.{Gather, TooLarge}
use Rattle.zenon_modulo.specs.declared.words.WordsStop.{WordsStop}
use Rattle.zenon_modulo.specs.declared.words.WordsStop.TheVariants as words_stops
use Rattle.zenon_modulo.specs.declared.words.UsageRefusal.{UsageRefusal}
use Rattle.zenon_modulo.specs.declared.words.Command as commands
use Rattle.zenon_modulo.specs.declared.words.Command.TheVariants as the_commands
use Rattle.zenon_modulo.specs.declared.words.Operand as operands
use Rattle.zenon_modulo.specs.declared.words.Operand.TheVariants as variants
use Rattle.zenon_modulo.specs.Words.{Word, Operand, Command, IsCommand}
use Rattle.zenon_modulo.specs.WordsRead.{operand_tree, command_tree}
use Rattle.zenon_modulo.specs.Input.{Name, input_limit, IfTold, HasTooMany, Explains}
use Rattle.zenon_modulo.specs.Answer.{Explanation}
use Rattle.zenon_modulo.specs.Claims.{Call, IsRefused}
use Rattle.zenon_modulo.specs.Stages.{Gives, HasRead, IsFew, IsRefusedOr}
use Rattle.zenon_modulo.proofs.Commands.{few_steps}
use Rattle.zenon_modulo.proofs.Answered.{has_words, memory_given, library_fault_given, refused_given, read_fault_given}

-- a rise after a stay or a rise is a rise of the whole
pub rose_later : (a b c : ℕ) → a ≤ b → Rose b c → Rose a c
rose_later a b c le (inl lt) = inl (omega arith)
rose_later a b c le (inr e) = inr e

pub rose_since : (x y a b c : ℕ) → x ≡ a → y ≡ c → a ≤ b → Rose b c → Rose x y
rose_since x y a b c e f le r = subst (λ n. Rose n y) (sym e) (subst (Rose a) (sym f) (rose_later a b c le r))

pub reads_nothing : (left : Option (List ℕ)) → ReadsAtMost (input_limit + 1) left left
reads_nothing None = record { got = []; within = omega arith; front = refl }
reads_nothing (Some bytes) = record { got = []; within = omega arith; front = refl }

-- a call that asks for a file
module _ (c : Call) (name : Name) (steps : ℕ) (is : IsCommand (map string_bytes c.words) (Command.prove (Operand.file name) steps))
    (left : c.left_now ≡ c.left) where
  file_words : c.words ≢ []
  file_words = has_words c.words (Operand.file name) steps is

  pub file_has_read : (b bytes : List ℕ) (told : Option (List NamedFile)) → b ≡ bytes → c.files ≡ told
      → IfSome told (λ fs. file_of fs name ≡ Some bytes) → length bytes ≤ input_limit → HasRead c name b steps
  file_has_read b bytes told e f t le = record {
    operand = Operand.file name;
    is_command = is;
    named = refl;
    text = subst (λ q. IfSome q (λ fs. file_of fs name ≡ Some b)) (sym f) (subst (λ x. IfSome told (λ fs. file_of fs name ≡ Some x)) (sym e) t);
    fits = (let l = ap length e in omega arith);
    taken = left;
  }

  file_refused : (e : Explanation) → ((fs : List NamedFile) → c.files ≡ Some fs → Explains (Operand.file name) fs (file_of fs name) e)
      → IsRefused c.words c.left c.files e
  file_refused e k = record { operand = Operand.file name; steps = steps; is_command = is; holds = go c.files k }
    where
      go : (q : Option (List NamedFile)) → ((fs : List NamedFile) → q ≡ Some fs → Explains (Operand.file name) fs (file_of fs name) e)
          → IfTold (Operand.file name) c.left q (λ fs text. Explains (Operand.file name) fs text e)
      go None k = tt
      go (Some fs) k = k fs refl

  said : (P : List NamedFile → Type 0) (q : Option (List NamedFile)) (fs : List NamedFile) → q ≡ Some fs → IfSome q P → P fs
  said P q fs e h = subst (λ f. IfSome f P) e h

  pub missing_given : (o : Outcome) (text : List ℕ) (told : Option (List NamedFile)) → c.files ≡ told
      → IfSome told (λ fs. file_of fs name ≡ None) → IsRefusedOr (Gather (gather.Missing name)) o → text ≡ [] → Gives c o text
  missing_given o text told f h x t =
      refused_given c (Gather (gather.Missing name)) (Explanation.ungathered (Refusal.missing name)) o text refl x t file_words
      (file_refused (Explanation.ungathered (Refusal.missing name))
      (λ fs e. Explains.absent refl (said (λ fs. file_of fs name ≡ None) told fs (sym f ∙ e) h)))
      (record { operand = Operand.file name; steps = steps; is_command = is; holds = left })

  pub file_too_large : (o : Outcome) (text : List ℕ) (told : Option (List NamedFile)) → c.files ≡ told
      → IfSome told (λ fs. HasTooMany (file_of fs name)) → IsRefusedOr TooLarge o → text ≡ [] → Gives c o text
  file_too_large o text told f h x t =
      refused_given c TooLarge Explanation.too_large o text refl x t file_words
      (file_refused Explanation.too_large
      (λ fs e. Explains.too_large (said (λ fs. HasTooMany (file_of fs name)) told fs (sym f ∙ e) h)))
      (record { operand = Operand.file name; steps = steps; is_command = is; holds = left })

  pub file_fault : (o : Outcome) (text : List ℕ) → o ≡ LibraryFault → text ≡ [] → Rose c.library_faults c.library_faults_now → Gives c o text
  file_fault o text e t rose =
      library_fault_given c o text e t rose (record { operand = Operand.file name; steps = steps; is_command = is; holds = left })

  pub file_memory : (o : Outcome) (text : List ℕ) → o ≡ Memory → text ≡ [] → Gives c o text
  file_memory o text e t = memory_given c o text e t file_words

untold : (now : Option (List ℕ)) → ReadsAtMost (input_limit + 1) None now → AtEnd now
untold None r = tt
untold (Some left) r = none_some r.front
  where
    none_some : {x : List ℕ} → None ≡ Some x → AtEnd (Some left)
    none_some h = cc

at_end : (before now : Option (List ℕ)) (bytes : List ℕ) → IfSome before (λ given. (bytes ≡ given) × (now ≡ Some [])) → ReadsAtMost (input_limit + 1) before now → AtEnd now
at_end None now bytes h r = untold now r
at_end (Some given) now bytes h r = subst AtEnd (sym h.1) refl

-- a call that asks for the source
module _ (c : Call) (steps : ℕ) (is : IsCommand (map string_bytes c.words) (Command.prove Operand.source steps)) where
  source_words : c.words ≢ []
  source_words = has_words c.words Operand.source steps is

  source_told : (before now : Option (List ℕ)) (fs : Option (List NamedFile)) (bytes : List ℕ)
      → IfSome before (λ given. (bytes ≡ given) × (now ≡ Some [])) → IfTold Operand.source before fs (λ fs text. text ≡ Some bytes)
  source_told before now None bytes h = tt
  source_told None now (Some fs) bytes h = tt
  source_told (Some given) now (Some fs) bytes h = ap Some (sym h.0)

  pub source_has_read : (b bytes : List ℕ) → b ≡ bytes → ReadsAtMost (input_limit + 1) c.left c.left_now
      → IfSome c.left (λ given. (bytes ≡ given) × (c.left_now ≡ Some [])) → length bytes ≤ input_limit → HasRead c (codes "-") b steps
  source_has_read b bytes e reads h le = record {
    operand = Operand.source;
    is_command = is;
    named = refl;
    text = source_told c.left c.left_now c.files b (subst (λ x. IfSome c.left (λ given. (x ≡ given) × (c.left_now ≡ Some []))) (sym e) h);
    fits = (let l = ap length e in omega arith);
    taken = at_end c.left c.left_now bytes h reads;
  }

  source_large : (before : Option (List ℕ)) (fs : Option (List NamedFile)) → IfSome before (λ given. (input_limit < length given) × (c.left_now ≡ Some (drop (input_limit + 1) given)))
      → IfTold Operand.source before fs (λ fs text. Explains Operand.source fs text Explanation.too_large)
  source_large before None h = tt
  source_large None (Some fs) h = tt
  source_large (Some given) (Some fs) h = Explains.too_large (record { bytes = given; is_there = refl; over = h.0 })

  source_cut : (before now : Option (List ℕ)) → IfSome before (λ given. (input_limit < length given) × (now ≡ Some (drop (input_limit + 1) given)))
      → IfSome before (λ given. now ≡ Some (drop (input_limit + 1) given))
  source_cut None now h = tt
  source_cut (Some given) now h = h.1

  pub source_too_large : (o : Outcome) (text : List ℕ)
      → IfSome c.left (λ given. (input_limit < length given) × (c.left_now ≡ Some (drop (input_limit + 1) given)))
      → IsRefusedOr TooLarge o → text ≡ [] → Gives c o text
  source_too_large o text h x t =
      refused_given c TooLarge Explanation.too_large o text refl x t source_words
      (record { operand = Operand.source; steps = steps; is_command = is; holds = source_large c.left c.files h })
      (record { operand = Operand.source; steps = steps; is_command = is; holds = source_cut c.left c.left_now h })

  pub source_fault : (o : Outcome) (text : List ℕ) → o ≡ ReadFault → text ≡ [] → Rose c.source_faults c.source_faults_now → Gives c o text
  source_fault o text e t rose =
      read_fault_given c o text e t (record { operand = Operand.source; steps = steps; is_command = is; holds = refl }, rose)

  pub source_memory : (o : Outcome) (text : List ℕ) → o ≡ Memory → text ≡ [] → Gives c o text
  source_memory o text e t = memory_given c o text e t source_words

-- want of memory for the words isn't misuse
pub memory_is_no_misuse : {T : Type 0} (r : Result T WordsStop) (x : WordsStop) (m : UsageRefusal) → r ≡ Err (words_stops.Usage m) → r ≡ Err x
    → x ≡ words_stops.Memory → ⊥
memory_is_no_misuse r x m a b c = cc

pub few_commands : (words : List Word) (command : commands.Command) → IsCommand words (command_tree command) → IsFew command
few_commands words (the_commands.Prove operand steps) is = few_steps words (operand_tree operand) steps is

pub prove_command : (words : List Word) (command : commands.Command) (operand : operands.Operand) (steps : ℕ) → command ≡ the_commands.Prove operand steps
    → IsCommand words (command_tree command) → IsCommand words (Command.prove (operand_tree operand) steps)
prove_command words command operand steps e is = subst (λ c. IsCommand words (command_tree c)) e is

pub prove_few : (command : commands.Command) (operand : operands.Operand) (steps : ℕ) → command ≡ the_commands.Prove operand steps → IsFew command
    → steps ≤ 1000000
prove_few command operand steps e few = subst IsFew e few

pub file_command : (words : List Word) (operand : operands.Operand) (name text : Name) (steps : ℕ) → operand ≡ variants.File name → text ≡ name
    → IsCommand words (Command.prove (operand_tree operand) steps) → IsCommand words (Command.prove (Operand.file text) steps)
file_command words operand name text steps e t is =
    subst (λ n. IsCommand words (Command.prove (Operand.file n) steps)) (sym t)
    (subst (λ o. IsCommand words (Command.prove (operand_tree o) steps)) e is)
