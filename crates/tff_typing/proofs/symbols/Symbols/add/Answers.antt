use Rattle.std.proofs.Common.{◌∙◌, arith}
use Rattle.tff_typing.proofs.Walks.{not_found, entry_last, entries_more, names_follow, length_table}
use Rattle.tff_typing.proofs.symbols.Symbols.add.Goals as goal

pub invariant_of-self-2 : goal.invariant_of-self-2
invariant_of-self-2 c =
    let es = c.args.self.now.entries.entries in
    let n = not_found c.args.key.name.now c.args.key.parts es c.requires in
    let e = c.in_ok-insert.ensures.entries ∙ entry_last _ c.args.key c.args.declaration es n in
    record {
      same_names = λ x.
          names_follow x c.args.self.now.names.keys c.reserve.new.self.keys c.note.new.names.keys es
          c.insert.new.self.entries c.args.key c.args.declaration
          (c.note.ensures x) c.in_ok-reserve.ensures.keys (c.args.self.now.same_names x) e;
    }

pub returns : goal.returns
returns c =
    let es = c.args.self.now.entries.entries in
    let n = not_found c.args.key.name.now c.args.key.parts es c.requires in
    let e = c.in_ok-insert.ensures.entries ∙ entry_last _ c.args.key c.args.declaration es n in
    let l = length_table es in
    (omega arith, omega arith, rw e (entries_more es (c.args.key, c.args.declaration)))
