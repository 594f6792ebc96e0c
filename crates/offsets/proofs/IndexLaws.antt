-- The index of a name list: how it is written, the lines that it bounds, and, of a checked list, where each name lies.
use mathlib.Core.Path.{◌≡◌, sym, ap, ◌∙◌}
use mathlib.Core.List.{List, map}
use Prim.Native.Nat.{ℕ, zero, suc, ◌+◌, ◌-◌, ◌≤◌, ◌<◌}
use native.Mathlib.Nat.{add-zero, zero-add, add-suc, suc-add}
use native.Mathlib.Numerals.{add-one}
use native.Mathlib.Omega.{arith}
use lib.ListN.{length, get_or, take, drop, set, length-map, get_or-append}
use lib.Seq.{sets, sets-eq}
use Rattle.model.specs.Answers.{passes}
use Rattle.model.specs.Lists.{from, numbers}
use Rattle.model.specs.Names.{lines, bare, name_of, names_of}
use Rattle.model.proofs.ListLaws.{from_next, length_from}
use Rattle.model.proofs.NameLaws.{few-names, lines-counted}
use Rattle.offsets.specs.Lines.{line, start_of, line_count, line_starts, Indexed}
use Rattle.offsets.proofs.Parts.{part_bare, part_last}
use Rattle.offsets.proofs.LineLaws.{Cut, Begins, cut_at, line_at}

-- ---- writing it

-- what is left to write from line k on
abbrev pub starts_from : List ℕ → ℕ → List ℕ
starts_from list k = map (start_of (lines list)) (from (line_count list + 1 - k) k)

module _ (list starts whole after : List ℕ) (k at : ℕ) (b : Begins list k at) (e : sets starts k (starts_from list k) ≡ whole)
    (put : after ≡ set starts k at) where
  pub write-next : k < line_count list → sets after (k + 1) (starts_from list (k + 1)) ≡ whole
  write-next h = rw put (sym (rw (from_next k (line_count list + 1) (omega arith), add-one k, b.start)) ∙ e)

  pub write-last : k ≡ line_count list → (k ≡ line_count list) × (after ≡ whole)
  unfolding from
  write-last h = let m : line_count list + 1 - k ≡ 1 = omega arith in (h, put ∙ sym (rw (m, b.start)) ∙ e)

-- a function mapped over the numbers from q on
pub mapped_at : (f : ℕ → ℕ) (n q k : ℕ) → k < n → get_or (map f (from n q)) k 0 ≡ f (q + k)
unfolding from
mapped_at f zero q k h = absurd (omega arith)
mapped_at f (suc n) q zero h = rw add-zero
mapped_at f (suc n) q (suc k) h = mapped_at f n (suc q) k (omega arith) ∙ rw (suc-add, add-suc)

-- once written, an array of 65 entries is indexed
pub indexed : (list before starts : List ℕ) → 65 ≤ length before → starts ≡ sets before 0 (line_starts list) → Indexed list starts
indexed list before starts h e = record {
  start = λ k i.
      let n : length (line_starts list) ≡ line_count list + 1 = length-map (numbers (line_count list + 1))
      (start_of (lines list)) ∙ length_from (line_count list + 1) 0 in
      rw (
        e,
        sets-eq (line_starts list) before 0 (omega arith),
        get_or-append (line_starts list) (drop (0 + length (line_starts list)) before) 0 k (omega arith),
      )
      (mapped_at (start_of (lines list)) (line_count list + 1) 0 k (omega arith) ∙ rw zero-add);
}

-- ---- the lines that it bounds

module _ (list starts : List ℕ) (index : Indexed list starts) where
  module _ (k : ℕ) (h : k < line_count list) where
    pub indexed_cut : Cut list (get_or starts k 0) (get_or starts (k + 1) 0)
    indexed_cut = rw (add-one, index.start k (omega arith), index.start (suc k) h) (cut_at list k (omega arith))

    pub indexed-line : take (get_or starts (k + 1) 0 - get_or starts k 0) (drop (get_or starts k 0) list) ≡ line list k
    indexed-line = rw (add-one, index.start k (omega arith), index.start (suc k) h) (sym (line_at list k (omega arith)))

    -- the last byte of a line is before the next one
    pub indexed-last : get_or (line list k) (length (line list k) - 1) 0 ≡ get_or list (get_or starts (k + 1) 0 - 1) 0
    indexed-last = ap (λ (l : List ℕ). get_or l (length l - 1) 0) (sym indexed-line) ∙ part_last list (get_or starts k 0)
        (get_or starts (k + 1) 0) indexed_cut.after indexed_cut.within

    pub indexed-name : bare (line list k) ≡ take (get_or starts (k + 1) 0 - 1 - get_or starts k 0) (drop (get_or starts k 0) list)
    indexed-name = ap bare (sym indexed-line) ∙ part_bare list (get_or starts k 0) (get_or starts (k + 1) 0) indexed_cut.within

-- ---- a checked list

-- where the name of a tag lies, by the index
pub record Lies (list starts : List ℕ) (a : ℕ) : Type 0 where
  pub after : get_or starts (a - 1) 0 < get_or starts a 0
  pub within : get_or starts a 0 ≤ length list
  pub name : name_of list a ≡ take (get_or starts a 0 - 1 - get_or starts (a - 1) 0) (drop (get_or starts (a - 1) 0) list)

module _ (list : List ℕ) (g : ℕ) (checked : names_of list ≡ passes g) where
  pub all-indexed : line_count list ≡ g
  all-indexed = omega (arith, lines-counted list g checked, few-names list g checked)

  module _ (starts : List ℕ) (index : Indexed list starts) where
    pub name_lies : (a : ℕ) → 1 ≤ a → a ≤ g → Lies list starts a
    unfolding name_of
    name_lies a h i =
        let e : a - 1 + 1 ≡ a = omega arith in
        let k : a - 1 < line_count list = omega (arith, all-indexed) in
        let c : Cut list (get_or starts (a - 1) 0) (get_or starts a 0) = rw e at (indexed_cut list starts index (a - 1) k) in
        record { after = c.after; within = c.within; name = rw e at (indexed-name list starts index (a - 1) k) }
