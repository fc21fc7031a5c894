use Rattle.std.proofs.Common.{◌≡◌, map, drop}
use Rattle.zm_base.specs.Library.{file_named, file_of}
use Rattle.zm_base.proofs.memory_library.copy_of.Given as goal

abbrev pub invariant-loop-file : goal.invariant-loop-file
invariant-loop-file l = file_of (map file_named (drop l.file-index l.files)) l.name ≡ file_of (map file_named l.files) l.name
