-- Reading and writing of the code: what `read` leaves in the lent tree is written by `write`, and what `write` leaves is read again as the
-- same words but for text starts. Of each call its promise alone is used.
use mathlib.Core.Path.{◌≡◌, sym, ap, ◌∙◌}
use mathlib.Core.List.{List}
use Prim.Native.Nat.{ℕ, ◌*◌, ◌≤◌}
use lib.ListN.{length, take}
use Rattle.std.specs.Prelude.{Ok}
use Rattle.model.specs.Answers.{Answer}
use Rattle.model.specs.Tree.{sizeD, wordsD, without_starts}
use Rattle.model.specs.Written.{node_texts}
use Rattle.model.specs.Calls.{read, read_said, write, write_said, write_out}
use Rattle.model.specs.Demands.{Promised, ReadPromised}
use Rattle.model.proofs.CheckLaws.{passes_inj}
use Rattle.model.proofs.Answered.{counts, front_left, read-counted}
use Rattle.model.proofs.RoundTrip.{write_read, read-write}
use Rattle.reader.proofs.read.Reads as of_read
use Rattle.writer.proofs.write.Reads as of_write

-- The promises that are proved of the code give these: `Post` is how the `ensures` of a function read, of lifetimes κs, arguments a,
-- answer r, and x, what the arguments hold at the end.
pub read_promised : (κs : _) (a : _) (r : Answer) (x : _) → of_read.Post κs a r x
    → ReadPromised a.0.now a.1.0.now a.1.1.0.now r x.1.1.0.now
read_promised κs a r x (answer, buffer) = record { answer = answer; buffer = buffer }

pub write_promised : (κs : _) (a : _) (r : Answer) (x : _) → of_write.Post κs a r x
    → Promised (write a.0.now a.1.0.now a.1.1.0.now (length a.1.1.1.0.now)) a.1.1.1.0.now r
    x.1.1.1.0.now
unfolding write_said write_out
write_promised κs a r x (answer, buffer) = record { answer = answer; buffer = buffer }

-- `write`, lent a tree, the text it was read from and a buffer, counts m bytes; `read`, lent the first m bytes of what it leaves and
-- room for the tree, gives the tree again: its words are the same but for text starts, and each text has the bytes that it had.
module _ (list text tree : List ℕ) {out bytes : List ℕ} {w : Answer} {m : ℕ}
    (written : Promised (write list text tree (length out)) out w bytes) (counted : w ≡ Ok m)
    {buffer left : List ℕ} {r : Answer} (reads : ReadPromised list (take m bytes) buffer r left) (room : length tree ≤ length buffer) where
  pub read_again : (n : ℕ) × (r ≡ Ok n) × (without_starts (take (n * 4) left) ≡ without_starts tree)
      × (node_texts (take m bytes) (take (n * 4) left) ≡ node_texts text tree)
  unfolding read_said
  read_again =
      let (d, passed, same, texts) = write_read list text tree (length out) (front_left written counted) (length buffer) room in
      let r_is = counts sizeD (read list (take m bytes) (length buffer)) r reads.answer passed in
      let (c, also, _, front) = read-counted list (take m bytes) buffer reads.answer reads.buffer r_is in
      let one : c ≡ d = passes_inj (sym also ∙ passed) in
      let words = front ∙ ap wordsD one in
      (sizeD d, r_is, ap without_starts words ∙ same, ap (node_texts (take m bytes)) words ∙ texts)

-- `read` counts n nodes; `write`, lent their words, the text and a buffer as long as the text, isn't refused.
module _ (list text : List ℕ) {buffer left : List ℕ} {r : Answer} {n : ℕ}
    (reads : ReadPromised list text buffer r left) (counted : r ≡ Ok n)
    {out bytes : List ℕ} {w : Answer} (written : Promised (write list text (take (n * 4) left) (length out)) out w bytes)
    (room : length text ≤ length out) where
  pub written_back : (m : ℕ) × (w ≡ Ok m)
  written_back =
      let (d, passed, _, front) = read-counted list text buffer reads.answer reads.buffer counted in
      let (b, writes) = read-write list text (length buffer) passed (length out) room in (
        length b,
        counts length (write list text (take (n * 4) left) (length out)) w written.answer
            (ap (λ t. write list text t (length out)) front ∙ writes),
      )
