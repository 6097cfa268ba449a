-- The loop's invariant: the number of the bytes that are read.
use Rattle.std.specs.Prelude.{◌≡◌, ◌^◌, ◌<◌, take}
use Rattle.laws.specs.Bytes.{number}
use Rattle.leaf_commit_page.proofs.map_in.Given as goal

abbrev pub invariant-loop-byte : goal.invariant-loop-byte
invariant-loop-byte l =
    (l.map ≡ number (take l.byte-index l.byte-items)) × (l.map < 256 ^ l.byte-index)
