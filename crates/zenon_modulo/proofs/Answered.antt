-- What is given at each exit of a part is an answer to the call.
use Rattle.std.proofs.Common.{ℕ, ◌≡◌, ◌≢◌, false, List, [], ◌∷◌, codes, map, string_bytes, Option, Some, None, IfSome, IsSomeAnd, inl, inr, refl, sym, subst, ap}
use Rattle.std.specs.Option.{option_map}
use Rattle.zm_base.specs.Outside.{Rose}
use Rattle.zm_base.specs.Library.{NamedFile, file_of}
use Rattle.zm_logic.specs.Tree.{Form, Symbol, Problem}
use Rattle.tptp_include.specs.Gathering.{Placed, Refusal, Outcome as gathering, GathersAll}
use Rattle.tptp_include.specs.declared.refusal.GatherRefusal.{GatherRefusal}
use Rattle.tptp_include.specs.declared.refusal.GatherRefusal.TheVariants as gather
use Rattle.tptp_include.specs.Outcomes.{refusal_of}
use Rattle.tff_typing.specs.Fault.{Fault}
use Rattle.tff_typing.specs.Rules.{MakeProblem}
use Rattle.tff_typing.specs.View.{Refuses}
use Rattle.tff_typing.specs.declared.typed.TypeRefusal.{TypeRefusal}
use Rattle.zm_logic.specs.Problem.{IsTypedProblem}
use Rattle.zenon_modulo.specs.declared.outcome.Outcome.{Outcome}
use Rattle.zenon_modulo.specs.declared.outcome.Outcome.TheVariants.{Refused, Usage, ReadFault, LibraryFault, Memory}
use Rattle.zenon_modulo.specs.declared.outcome.InputRefusal.{InputRefusal}
use Rattle.zenon_modulo.specs.declared.outcome.InputRefusal.TheVariants.{Gather, Typing, NotBuilt}
use Rattle.zenon_modulo.specs.declared.words.UsageRefusal.{UsageRefusal}
use Rattle.zenon_modulo.specs.Fragments.{is_built}
use Rattle.zenon_modulo.specs.Words.{Word, Operand, Command, IsCommand, IsMisuse}
use Rattle.zenon_modulo.specs.WordsRead.{misuse_of}
use Rattle.zenon_modulo.specs.Input.{Name, name_of, IfTold, IsGatheredFrom, Makes, IsFirstUntyped, IsText, Spells, Explains}
use Rattle.zenon_modulo.specs.Answer.{Untyped, Explanation, Answer}
use Rattle.zenon_modulo.specs.Outcome.{untyped_of, explanation_of}
use Rattle.zenon_modulo.specs.Claims.{Words, Call, Claims, IsRefused, IsReadFor, IsOperandRead, HasReadFault}
use Rattle.zenon_modulo.specs.Text.{out_text}
use Rattle.zenon_modulo.specs.Writing.{IsAnswer}
use Rattle.zenon_modulo.specs.Stages.{Gives, AsksFor, GivesFor, HasRead, IsRefusedOr, IsUngathered}

-- a problem, for answers that speak of none
abbrev nothing : Problem
nothing = record { symbols = []; premises = []; conjecture = Form.falsity }

some_word : (words : List Word) (operand : Operand) (steps : ℕ) → IsCommand words (Command.prove operand steps) → words ≡ [] → ⊥
some_word words operand steps (IsCommand.prove {word = word} {options = options} o a) e = filled (codes "prove") (word ∷ options) e
  where
    filled : (x : Word) (xs : List Word) → x ∷ xs ≡ [] → ⊥
    filled x xs h = cc

-- a command has words
pub has_words : (words : Words) (operand : Operand) (steps : ℕ) → IsCommand (map string_bytes words) (Command.prove operand steps) → words ≢ []
has_words words operand steps is e = some_word (map string_bytes words) operand steps is (ap (map string_bytes) e)

module _ (c : Call) where
  plain_answer : (a : Answer) (text : List ℕ) → Claims c nothing a → text ≡ out_text nothing a → IsAnswer c a text
  plain_answer a text k w = record { problem = nothing; claims = k; written = w }

  pub memory_given : (o : Outcome) (text : List ℕ) → o ≡ Memory → text ≡ [] → c.words ≢ [] → Gives c o text
  memory_given o text e t some = subst (λ x. Gives c x text) (sym e) (plain_answer Answer.memory text some t)

  pub usage_given : (r : UsageRefusal) (o : Outcome) (text : List ℕ) → o ≡ Usage r → text ≡ []
      → IsMisuse (map string_bytes c.words) (misuse_of r) → c.left_now ≡ c.left → Gives c o text
  usage_given r o text e t m same = subst (λ x. Gives c x text) (sym e) (plain_answer (Answer.misused (misuse_of r)) text (m, same) t)

  pub read_fault_given : (o : Outcome) (text : List ℕ) → o ≡ ReadFault → text ≡ []
      → HasReadFault c.words c.source_faults c.source_faults_now → Gives c o text
  read_fault_given o text e t f = subst (λ x. Gives c x text) (sym e) (plain_answer Answer.read_fault text f t)

  pub library_fault_given : (o : Outcome) (text : List ℕ) → o ≡ LibraryFault → text ≡ []
      → Rose c.library_faults c.library_faults_now → IsOperandRead c.words c.left c.left_now → Gives c o text
  library_fault_given o text e t f r = subst (λ x. Gives c x text) (sym e) (plain_answer Answer.library_fault text (f, r) t)

  refused_is : (r : InputRefusal) (e : Explanation) (text : List ℕ) → explanation_of r ≡ Some e → text ≡ []
      → IsRefused c.words c.left c.files e → IsReadFor c e → Gives c (Refused r) text
  refused_is r e text x t w k =
      subst (λ q. IsSomeAnd (option_map Answer.refused q) (λ a. IsAnswer c a text)) (sym x)
      (plain_answer (Answer.refused e) text (w, k) t)

  pub refused_given : (r : InputRefusal) (e : Explanation) (o : Outcome) (text : List ℕ) → explanation_of r ≡ Some e
      → IsRefusedOr r o → text ≡ [] → c.words ≢ [] → IsRefused c.words c.left c.files e → IsReadFor c e → Gives c o text
  refused_given r e o text x (inl h) t some w k = subst (λ y. Gives c y text) (sym h) (refused_is r e text x t w k)
  refused_given r e o text x (inr h) t some w k = memory_given o text h t some

-- what holds of the files that are told and of the operand's text
pub told : (operand : Operand) (left : Option (List ℕ)) (files : Option (List NamedFile)) (bytes : List ℕ)
    → IfTold operand left files (λ fs text. text ≡ Some bytes) → (P : List NamedFile → Option (List ℕ) → Type 0)
    → ((fs : List NamedFile) (text : Option (List ℕ)) → files ≡ Some fs → text ≡ Some bytes → P fs text) → IfTold operand left files P
told Operand.source left None bytes t P h = tt
told Operand.source None (Some fs) bytes t P h = tt
told Operand.source (Some given) (Some fs) bytes t P h = h fs (Some given) refl t
told (Operand.file name) left None bytes t P h = tt
told (Operand.file name) left (Some fs) bytes t P h = h fs (file_of fs name) refl t

some_given : (P : List NamedFile → Type 0) (files : Option (List NamedFile)) (fs : List NamedFile) → files ≡ Some fs → IfSome files P → P fs
some_given P files fs e h = subst (λ f. IfSome f P) e h

-- the first fault of typing, as plain data
first_untyped : (list : List Placed) (t : TypeRefusal) → Refuses list t → IsFirstUntyped list (untyped_of t)
first_untyped list t f = record {
  refusal = f.refusal;
  found = f.found;
  placed = f.placed;
  stands = f.stands;
  told = same (untyped_of t) f.placed.file f.placed.at f.refusal.fault f.refusal.symbols f.file f.place f.fault f.symbols;
}
  where
    same : (u : Untyped) (file : Name) (at : ℕ) (fault : Fault) (symbols : List Symbol) → u.file ≡ file → u.at ≡ at → u.fault ≡ fault
        → u.symbols ≡ symbols → u ≡ record { file = file; at = at; fault = fault; symbols = symbols }
    same u file at fault symbols a b c d =
        subst (λ f. u ≡ record { file = f; at = at; fault = fault; symbols = symbols }) a
        (subst (λ n. u ≡ record { file = u.file; at = n; fault = fault; symbols = symbols }) b
        (subst (λ x. u ≡ record { file = u.file; at = u.at; fault = x; symbols = symbols }) c
        (subst (λ l. u ≡ record { file = u.file; at = u.at; fault = u.fault; symbols = l }) d refl)))

-- a call whose operand was read
module _ (c : Call) (name : Name) (bytes : List ℕ) (steps : ℕ) (h : HasRead c name bytes steps) where
  pub read_operand : IsOperandRead c.words c.left c.left_now
  read_operand = record { operand = h.operand; steps = steps; is_command = h.is_command; holds = h.taken }

  pub read_words : c.words ≢ []
  read_words = has_words c.words h.operand steps h.is_command

  is_text : (text : Option (List ℕ)) → text ≡ Some bytes → IsText text bytes
  is_text text e = record { is_there = e; within = h.fits }

  -- what is said of the text by its name is said of the operand's text
  of_operand : (P : List NamedFile → Name → Type 0) (fs : List NamedFile) → c.files ≡ Some fs → IfSome c.files (λ f. P f name)
      → P fs (name_of h.operand)
  of_operand P fs e s = subst (P fs) (sym h.named) (some_given (λ f. P f name) c.files fs e s)

  spells : (p : Problem) (fs : List NamedFile) (text : Option (List ℕ)) → c.files ≡ Some fs → text ≡ Some bytes
      → IfSome c.files (λ f. Makes f name bytes p) → Spells h.operand fs text p
  spells p fs text e t m = record { bytes = bytes; is_text = is_text text t; makes = of_operand (λ f n. Makes f n bytes p) fs e m }

  pub asks_for : (p : Problem) → IfSome c.files (λ f. Makes f name bytes p) → IsTypedProblem p → AsksFor c p steps
  asks_for p m w = (
    record {
      operand = h.operand;
      steps = steps;
      is_command = h.is_command;
      holds = (record { spelled = told h.operand c.left c.files bytes h.text (λ fs text. Spells h.operand fs text p) (λ fs text e t. spells p fs text e t m); typed = w }, refl);
    },
    read_operand,
  )

  explained : (x : Explanation)
      → ((fs : List NamedFile) (text : Option (List ℕ)) → c.files ≡ Some fs → IsText text bytes → Explains h.operand fs text x)
      → IsRefused c.words c.left c.files x
  explained x k = record {
    operand = h.operand;
    steps = steps;
    is_command = h.is_command;
    holds = told h.operand c.left c.files bytes h.text (λ fs text. Explains h.operand fs text x) (λ fs text e t. k fs text e (is_text text t));
  }

  -- refusals of a text that was read
  pub ungathered_given : (g : GatherRefusal) (r : Refusal) (o : Outcome) (text : List ℕ) → refusal_of g ≡ Some r
      → IfSome c.files (λ f. GathersAll f name bytes (gathering.refused r)) → IsRefusedOr (Gather g) o → text ≡ [] → Gives c o text
  ungathered_given g r o text e k x t =
      refused_given c (Gather g) (Explanation.ungathered r) o text (ap (option_map Explanation.ungathered) e) x t read_words
      (explained (Explanation.ungathered r)
      (λ fs q d i. Explains.ungathered i (of_operand (λ f n. GathersAll f n bytes (gathering.refused r)) fs d k))) read_operand

  pub untyped_given : (list : List Placed) (u : TypeRefusal) (o : Outcome) (text : List ℕ)
      → IfSome c.files (λ f. IsGatheredFrom f name bytes list) → Refuses list u → IsRefusedOr (Typing u) o → text ≡ [] → Gives c o text
  untyped_given list u o text k f x t =
      refused_given c (Typing u) (Explanation.untyped (untyped_of u)) o text refl x t read_words
      (explained (Explanation.untyped (untyped_of u))
      (λ fs q d i. Explains.untyped i (of_operand (λ f n. IsGatheredFrom f n bytes list) fs d k) (first_untyped list u f))) read_operand

  pub not_built_given : (p : Problem) (o : Outcome) (text : List ℕ) → IfSome c.files (λ f. Makes f name bytes p) → is_built p ≡ false
      → IsRefusedOr NotBuilt o → text ≡ [] → Gives c o text
  not_built_given p o text m b x t =
      refused_given c NotBuilt Explanation.not_built o text refl x t read_words
      (explained Explanation.not_built (λ fs q d i. Explains.not_built (spells p fs q d i.is_there m) b)) read_operand

  -- a refusal of gathering, where it says something of the input
  gather_given : (g : GatherRefusal) (r : Refusal) (o : Outcome) (text : List ℕ) → refusal_of g ≡ Some r
      → IfSome (refusal_of g) (λ r. IfSome c.files (λ f. GathersAll f name bytes (gathering.refused r)))
      → IsRefusedOr (Gather g) o → text ≡ [] → Gives c o text
  gather_given g r o text e k x t =
      ungathered_given g r o text e (subst (λ q. IfSome q (λ r. IfSome c.files (λ f. GathersAll f name bytes (gathering.refused r)))) e k) x t

  pub gathering_given : (g : GatherRefusal) (o : Outcome) (text : List ℕ)
      → IfSome (refusal_of g) (λ r. IfSome c.files (λ f. GathersAll f name bytes (gathering.refused r)))
      → (o ≡ LibraryFault → Rose c.library_faults c.library_faults_now) → IsUngathered g o → text ≡ [] → Gives c o text
  gathering_given (gather.Syntax place) o text h f x t = gather_given (gather.Syntax place) (Refusal.syntax place.file place.at) o text refl h x t
  gathering_given (gather.TooDeep place) o text h f x t = gather_given (gather.TooDeep place) (Refusal.too_deep place.file place.at) o text refl h x t
  gathering_given (gather.Unsupported form place) o text h f x t = gather_given (gather.Unsupported form place) (Refusal.unsupported form place.file place.at) o text refl h x t
  gathering_given (gather.IncludeDepth file) o text h f x t = gather_given (gather.IncludeDepth file) (Refusal.include_depth file) o text refl h x t
  gathering_given (gather.Cycle file) o text h f x t = gather_given (gather.Cycle file) (Refusal.cycle file) o text refl h x t
  gathering_given (gather.Missing file) o text h f x t = gather_given (gather.Missing file) (Refusal.missing file) o text refl h x t
  gathering_given gather.LibraryFault o text h f x t = library_fault_given c o text x t (f x) read_operand
  gathering_given gather.TooLarge o text h f x t = gather_given gather.TooLarge Refusal.too_large o text refl h x t
  gathering_given (gather.NoSuchFormula file) o text h f x t = gather_given (gather.NoSuchFormula file) (Refusal.no_such_formula file) o text refl h x t
  gathering_given gather.Memory o text h f x t = memory_given c o text x t read_words

  pub searched_given : (p : Problem) (o : Outcome) (text : List ℕ) → IfSome c.files (λ f. Makes f name bytes p) → IsTypedProblem p
      → GivesFor p steps o text → Gives c o text
  searched_given p o text m w g = g c (asks_for p m w)

  pub out_of_memory : (o : Outcome) (text : List ℕ) → o ≡ Memory → text ≡ [] → Gives c o text
  out_of_memory o text e t = memory_given c o text e t read_words

pub makes_problem : (files : Option (List NamedFile)) (name : Name) (bytes : List ℕ) (list : List Placed) (p : Problem)
    → IfSome files (λ fs. IsGatheredFrom fs name bytes list) → MakeProblem (map (λ s. s.statement) list) p → IfSome files (λ fs. Makes fs name bytes p)
makes_problem None name bytes list p g e = tt
makes_problem (Some fs) name bytes list p g e = record { list = list; gathered = g; typed = e }

pub gathers_list : (files told : Option (List NamedFile)) (name : Name) (bytes : List ℕ) (list : List Placed) → files ≡ told
    → IfSome told (λ fs. (n : ℕ) × GathersAll fs name bytes (gathering.gathered list n)) → IfSome files (λ fs. IsGatheredFrom fs name bytes list)
gathers_list files told name bytes list e g =
    subst (λ f. IfSome f (λ fs. IsGatheredFrom fs name bytes list)) (sym e) (go told g)
  where
    go : (told : Option (List NamedFile)) → IfSome told (λ fs. (n : ℕ) × GathersAll fs name bytes (gathering.gathered list n))
        → IfSome told (λ fs. IsGatheredFrom fs name bytes list)
    go None g = tt
    go (Some fs) g = record { count = g.0; gathered = g.1 }

pub tells_files : (files told : Option (List NamedFile)) (name : Name) (bytes : List ℕ) (g : GatherRefusal) → files ≡ told
    → IfSome (refusal_of g) (λ r. IfSome told (λ f. GathersAll f name bytes (gathering.refused r)))
    → IfSome (refusal_of g) (λ r. IfSome files (λ f. GathersAll f name bytes (gathering.refused r)))
tells_files files told name bytes g e h =
    subst (λ q. IfSome (refusal_of g) (λ r. IfSome q (λ f. GathersAll f name bytes (gathering.refused r)))) (sym e) h
