use Rattle.std.proofs.Common.{◌≡◌, ◌∙◌, ℕ, List, length, take, drop, ap, arith, length-take, length-drop, length-append}
use Rattle.host.proofs.Pieces.{piece, end}
use Rattle.host.proofs.memory.MemoryInputRead.read.Goals as goal

pub returns-clause-bytes : goal.returns-clause-bytes
returns-clause-bytes c =
    let at : ℕ = c.args.self.now.at in
    let xs : List ℕ = c.args.self.now.bytes.items in
    let n : ℕ = c.min-n.result in
    let rest : c.split_at.result.1.now ≡ drop at xs = c.split_at.ensures.back ∙ ap (drop at) c.as_slice.ensures.value in
    let size : length c.split_at.result.1.now ≡ length (drop at xs) = ap length rest in
    let least = c.min.ensures in
    let less = c.min-n.ensures in
    let some = c.args.self.now.some in
    let same = c.copy_from_slice.ensures.len in (
      piece at n xs c.copy_from_slice.new.self (drop n c.args.buf.now) (omega (arith, size, least, less))
          (c.copy_from_slice.ensures.after ∙ c.split_at-2.ensures.front ∙ ap (take n) rest),
      λ none room. end at n (length c.args.buf.now) c.args.self.now.most xs (omega (arith, size, least, less)) some
          (omega (arith, room, none, same, length-append {A = ℕ}, length-drop {A = ℕ}, length-take {A = ℕ})) none,
    )
