-- Four bytes are written, no other.
use mathlib.Core.Path.{◌≡◌, ap, ◌∙◌}
use borrow.Rule.Slice.PartMut.{put_mid}
use Prim.Native.Nat.{◌+◌, ◌-◌, ◌*◌}
use native.Mathlib.Omega.{arith}
use Rattle.laws.specs.Bytes.{bytes}
use Rattle.laws.proofs.Bytes.{bytes-length}
use Rattle.sheet_list.proofs.Making.{four_over, word_bytes}
use Rattle.sheet_list.proofs.put_word.Goals as goal

pub returns : goal.returns
returns c =
    let a = c.args in
    let written : c.copy_from_slice.new.self ≡ bytes 4 a.w = c.copy_from_slice.ensures.after ∙ c.to_be_bytes.ensures ∙ word_bytes a.w in
    ap (put_mid (4 * a.k) (4 * a.k + 4 - 4 * a.k) a.list.now) written ∙ four_over (4 * a.k) a.list.now (bytes 4 a.w) (bytes-length 4 a.w) (omega arith)
