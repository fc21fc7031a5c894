use Rattle.std.proofs.Common.{◌≡◌, ◌≤◌, ◌+◌, ◌-◌, ◌*◌, List, length, map, Some, vec_len}
use Rattle.std.specs.List.{AllByRecursion}
use Rattle.zm_base.specs.Library.{NamedFile}
use Rattle.tptp_include.specs.Gathering.{Gathers, IsGathered, Outcome, most_bytes, put}
use Rattle.tptp_include.specs.Outcomes.{placed_of}
use Rattle.tptp_include.proofs.files.+gathering.Given as goal

-- each file is one deeper, and within a file a statement comes before what it includes
abbrev pub decreases-gather_file : goal.decreases-gather_file
decreases-gather_file g l = 3 * (18 - vec_len l.reached.now.path) + 2

abbrev pub decreases-gather_include : goal.decreases-gather_include
decreases-gather_include g l = 3 * (18 - vec_len l.reached.now.path)

abbrev pub decreases-gather_statement : goal.decreases-gather_statement
decreases-gather_statement g l = 3 * (18 - vec_len l.reached.now.path) + 1

abbrev pub invariant-gather_file-loop-list : goal.invariant-gather_file-loop-list
invariant-gather_file-loop-list g l =
    let library = g.L.Library in
    record {
      told : (fs : List NamedFile) → library.files l.fn.library ≡ Some fs → (o : Outcome) →
          Gathers fs l.fn.reached.path.items l.name l.bytes l.at l.reached.count o →
          Gathers fs l.fn.reached.path.items l.name l.bytes 0 l.fn.reached.count (put (map placed_of l.list.items) o);
      gathered : AllByRecursion IsGathered (map placed_of l.list.items);
      within : l.at ≤ length l.bytes;
      count : l.reached.count ≤ most_bytes;
      path : l.reached.path.items ≡ l.fn.reached.path.items;
      files : library.files l.library ≡ library.files l.fn.library;
      later : library.faults l.fn.library ≤ library.faults l.library;
    }

abbrev pub decreases-gather_file-loop-list : goal.decreases-gather_file-loop-list
decreases-gather_file-loop-list g l = length l.bytes - l.at
