-- The words of a tree while it is read: what a node that is written leaves as it was, and what then stands in the words.
use mathlib.Core.Path.{◌≡◌, refl, sym, ap, ap₂, ◌∙◌}
use mathlib.Core.List.{List, [], ◌∷◌, ◌++◌, append_assoc, append-nil}
use Prim.Native.Nat.{ℕ, suc, ◌+◌, ◌-◌, ◌*◌, ◌/◌, ◌%◌, ◌≤◌, ◌<◌}
use native.Mathlib.Numerals.{add-one}
use native.Mathlib.Omega.{arith}
use lib.ListN.{length, get_or, take, drop, set}
use lib.Seq.{sets, sets-eq, length-sets, length-take-le, take-suc, take_at, drop-append-add, drop-set-add, drop-set-lt, take-set-le}
use lib.Seq.{take-add, drop-drop, drop-cons, get_or-set_same, get_or-set_other, lt-length-set}
use Rattle.model.specs.Tree.{Span, Element, text, Document, ε, ◌·◌, size, sizeD, node, words, wordsD}
use Rattle.model.specs.Text.{Open, behind, tag_node}
use Rattle.model.specs.Text.{an_open}
use Rattle.read_nodes.specs.Packed.{packed, unpacked, all_unpacked, Stands, OpenAt, Holds, outermost, inside}

-- ---- packing

-- the low field of a word, and what stands above it
pub low_field : (a x : ℕ) → a < 65536 → (a + 65536 * x) % 65536 ≡ a
low_field a x h = omega arith

pub high_fields : (a x : ℕ) → a < 65536 → (a + 65536 * x) / 65536 ≡ x
high_fields a x h = omega arith

pub unpacked-packed : (symbol n start bytes : ℕ) → symbol < 65536 → n < 65536 → start < 65536 → unpacked
    (packed symbol n start bytes) ≡ symbol ∷ n ∷ start ∷ bytes ∷ []
unfolding packed unpacked
unpacked-packed symbol n start bytes a b c =
    rw (high_fields symbol (n + 65536 * (start + 65536 * bytes)) a, high_fields n (start + 65536 * bytes) b, high_fields start bytes c)
    (rw (low_field symbol (n + 65536 * (start + 65536 * bytes)) a, low_field n (start + 65536 * bytes) b, low_field start bytes c))

-- an element's word has no text words
pub packed_tag : (symbol n : ℕ) → packed symbol n 0 0 ≡ symbol + 65536 * n
unfolding packed
packed_tag symbol n = omega arith

unpacked_tag : (symbol n : ℕ) → symbol < 65536 → n < 65536 → unpacked (symbol + 65536 * n) ≡ symbol ∷ n ∷ 0 ∷ 0 ∷ []
unpacked_tag symbol n a b = ap unpacked (sym (packed_tag symbol n)) ∙ unpacked-packed symbol n 0 0 a b (omega arith)

unpacked-append : (xs ys : List ℕ) → all_unpacked (xs ++ ys) ≡ all_unpacked xs ++ all_unpacked ys
unfolding all_unpacked
unpacked-append [] ys = refl
unpacked-append (x ∷ xs) ys = ap (λ l. unpacked x ++ l)
    (unpacked-append xs ys) ∙ sym (append_assoc (unpacked x) (all_unpacked xs) (all_unpacked ys))

-- ---- unpacking

length-unpacked : (ws : List ℕ) → length (all_unpacked ws) ≡ 4 * length ws
unfolding all_unpacked unpacked
length-unpacked [] = refl
length-unpacked (w ∷ ws) = omega (arith, length-unpacked ws)

-- the first k nodes are unpacked, and the tree is as it was behind them
pub record Unpacked (l before : List ℕ) (k : ℕ) (tree : List ℕ) : Type 0 where
  pub front : tree ≡ all_unpacked (take k l) ++ drop (4 * k) before
  pub same : length tree ≡ length before

pub unpacked_none : (l before : List ℕ) → Unpacked l before 0 before
unfolding all_unpacked
unpacked_none l before = record { front = refl; same = refl }

pub unpacked_more : {l before tree after : List ℕ} {k : ℕ} → Unpacked l before k tree → k < length l → 4 * k + 4 ≤ length before
    → after ≡ sets tree (4 * k) (unpacked (get_or l k 0)) → Unpacked l before (k + 1) after
unfolding all_unpacked unpacked
unpacked_more {l} {before} {tree} {after} {k} u there room e =
    let front = all_unpacked (take k l) in
    let w = get_or l k 0 in
    let n : length front ≡ 4 * k = length-unpacked (take k l) ∙ ap (λ (m : ℕ). 4 * m) (length-take-le k l (omega arith)) in
    let more : all_unpacked (take (k + 1) l) ≡ front ++ unpacked w = rw (add-one, take-suc l k 0 there)
    (unpacked-append (take k l) (w ∷ [])) in
    let next : 4 * k + 4 ≡ 4 * (k + 1) = omega arith in
    let t : take (4 * k) tree ≡ front = ap (take (4 * k)) u.front ∙ take_at front (drop (4 * k) before) (4 * k) n in
    let d : drop (4 * k + 4) tree ≡ drop (4 * (k + 1)) before =
    ap (drop (4 * k + 4)) u.front ∙ ap (λ (m : ℕ). drop (m + 4) (front ++ drop (4 * k) before)) (sym n)
    ∙ drop-append-add front (drop (4 * k) before) 4 ∙ drop-drop 4 (4 * k) before ∙ ap (λ (m : ℕ). drop m before) next in
    record {
      front = e ∙ sets-eq (unpacked w) tree (4 * k) (omega (arith, u.same)) ∙ rw (t, d, more);
      same = ap length e ∙ length-sets tree (4 * k) (unpacked w) ∙ u.same;
    }

-- ---- an element behind a document

size-behind : (d : Document) (e : Element) → sizeD (behind d e) ≡ sizeD d + size e
unfolding behind size
size-behind ε e = omega arith
size-behind (f · d) e = omega (arith, size-behind d e)

words-behind : (d : Document) (e : Element) → wordsD (behind d e) ≡ wordsD d ++ words e
unfolding behind words
words-behind ε e = append-nil (words e)
words-behind (f · d) e = ap (λ l. words f ++ l) (words-behind d e) ∙ sym (append_assoc (words f) (wordsD d) (words e))

-- ---- a word written outside

module _ (l : List ℕ) (i w : ℕ) where
  part_before : (a m : ℕ) → a + m ≤ i → take m (drop a (set l i w)) ≡ take m (drop a l)
  part_before a m h =
      let e : i ≡ a + (i - a) = omega arith in
      ap (λ (j : ℕ). take m (drop a (set l j w))) e ∙ rw (drop-set-add a l (i - a) w) (take-set-le m (drop a l) (i - a) w (omega arith))

  stands-before : {a end : ℕ} {d : Document} → end ≤ i → Stands l a end d → Stands (set l i w) a end d
  stands-before {a} {end} {d} h s = record
      { count = s.count; encoded = ap all_unpacked (part_before a (sizeD d) (omega (arith, s.count))) ∙ s.encoded }

-- ---- a node written between a document and the node's content

drop_set : (l : List ℕ) (k w : ℕ) → k < length l → drop k (set l k w) ≡ w ∷ drop (suc k) l
drop_set l k w h =
    drop-cons (set l k w) k 0 (lt-length-set l k w h) ∙ rw (get_or-set_same l k w 0 h, drop-set-lt (suc k) l k w (omega arith))

-- The element's content, or none of a text, stands behind its node.
stands_more : {l : List ℕ} {a k n : ℕ} {d : Document} (w : ℕ) (e : Element) (below : Document) → Stands l a k d → Stands l
    (suc k) n below → k < length l
    → size e ≡ suc (sizeD below) → words e ≡ unpacked w ++ wordsD below → Stands (set l k w) a n (behind d e)
unfolding all_unpacked
stands_more {l} {a} {k} {n} {d} w e below s t room many same =
    let m = sizeD d in
    let r = sizeD below in
    let at_k : a + m ≡ k = s.count in
    let parts : take (m + suc r) (drop a (set l k w)) ≡ take m (drop a l) ++ (w ∷ take r (drop (suc k) l)) =
    take-add m (suc r) (drop a (set l k w))
    ∙ ap₂ ◌++◌ (part_before l k w a m (omega arith))
    (ap (take (suc r)) (drop-drop m a (set l k w) ∙ ap (λ (j : ℕ). drop j (set l k w)) at_k ∙ drop_set l k w room)) in
    record {
      count = omega (arith, size-behind d e, t.count);
      encoded =
          ap (λ (j : ℕ). all_unpacked (take j (drop a (set l k w)))) (size-behind d e ∙ ap (λ (j : ℕ). m + j) many)
          ∙ ap all_unpacked parts ∙ unpacked-append (take m (drop a l)) (w ∷ take r (drop (suc k) l))
          ∙ ap₂ (λ x y. x ++ (unpacked w ++ y)) s.encoded t.encoded ∙ ap (λ x. wordsD d ++ x) (sym same) ∙ sym (words-behind d e);
    }

-- nothing stands anywhere
stands_none : {l : List ℕ} (i : ℕ) → Stands l i i ε
unfolding sizeD wordsD all_unpacked
stands_none i = record { count = omega arith; encoded = refl }

-- ---- the open elements

pub holds_none : {l : List ℕ} {g : ℕ} → Holds l g [] 0 0 ε
holds_none = outermost (stands_none 0)

-- where no element is open, the content is all
pub holds-all : {l : List ℕ} {g : ℕ} {os : List Open} {top n : ℕ} {d : Document} → Holds l g os top n d → length os ≡ 0 → (sizeD d ≡ n) ×
    (all_unpacked (take n l) ≡ wordsD d)
holds-all {l} {n = n} {d} (outermost s) h = let e : sizeD d ≡ n = omega (arith, s.count) in (e, rw (← e) s.encoded)
holds-all (inside at s rest) h = absurd (omega arith)

module _ {l : List ℕ} {g : ℕ} (i w : ℕ) where
  open_kept : {j parent : ℕ} {o : Open} → j < i → OpenAt l g j parent o → OpenAt (set l i w) g j parent o
  open_kept {j} h o = record {
    word = get_or-set_other l i j w 0
        (omega arith) ∙ o.word;
    tag_some = o.tag_some;
    tag_few = o.tag_few;
    above = o.above;
  }

  -- a word that is written behind the content changes nothing but the content
  holds_more : {os : List Open} {top n n' : ℕ} {d d' : Document} → n ≤ i →
      ((a : ℕ) → Stands l a n d → Stands (set l i w) a n' d') → Holds l g os top n d → Holds (set l i w) g os top n' d'
  holds_more h f (outermost s) = outermost (f 0 s)
  holds_more h f (inside {top = top} at s rest) =
      let k : top < i = omega (arith, s.count) in
      inside (open_kept k at) (f (suc top) s) (holds_more (omega arith) (λ a t. stands-before l i w (omega arith) t) rest)

module _ {l : List ℕ} {g : ℕ} {os : List Open} {top n : ℕ} {d : Document} (holds : Holds l g os top n d) where
  -- an element opens: its node holds its tag and its parent
  pub holds_open : {a w : ℕ} → w ≡ a + 65536 * top → 1 ≤ a → a ≤ g → top ≤ n → n < length l → Holds (set l n w) g (an_open a d ∷ os) n
      (suc n) ε
  holds_open {a} {w} e some few above room =
      inside (record { word = get_or-set_same l n w 0 room ∙ e; tag_some = some; tag_few = few; above = above }) (stands_none (suc n))
      (holds_more n w (omega arith) (λ a t. stands-before l n w (omega arith) t) holds)

  -- a text is read
  pub holds_text : (w k : ℕ) (at : Span) → n < length l → unpacked w ≡ node (64 + k) 1 at → Holds (set l n w) g os top (suc n)
      (behind d (text k at))
  unfolding size words
  holds_text w k at room e = holds_more n w (omega arith)
      (λ a s. stands_more w (text k at) ε s (stands_none (suc n)) room refl (rw e)) holds

-- the word of an open element, taken apart, and with the element's size in its parent's place
module _ {l : List ℕ} {g i parent : ℕ} {o : Open} (at : OpenAt l g i parent o) (few : g ≤ 64) where
  pub open_tag : get_or l i 0 % 65536 ≡ o.name
  open_tag = rw at.word (low_field o.name parent (omega (arith, at.tag_few)))

  open_parent : get_or l i 0 / 65536 ≡ parent
  open_parent = rw at.word (high_fields o.name parent (omega (arith, at.tag_few)))

-- an open element's node is read, and its parent's stands before it
pub top_read : {l : List ℕ} {g : ℕ} {o : Open} {os : List Open} {top n : ℕ} {d : Document} → Holds l g (o ∷ os) top n d → top < n
top_read (inside at s rest) = omega (arith, s.count)

pub parent_above : {l : List ℕ} {g : ℕ} {o : Open} {os : List Open} {top n : ℕ} {d : Document} → Holds l g
    (o ∷ os) top n d → g ≤ 64 → get_or l top 0 / 65536 ≤ top
parent_above (inside at s rest) few = rw (open_parent at few) at.above

-- an element closes: its node holds its tag and its size
pub holds_close : {l : List ℕ} {g : ℕ} {o : Open} {os : List Open} {top n : ℕ} {d : Document} → Holds l g
    (o ∷ os) top n d → g ≤ 64 → n ≤ 4096 → top < length l
    → Holds (set l top (get_or l top 0 % 65536 + 65536 * (n - top))) g os (get_or l top 0 / 65536) n
    (behind o.earlier (tag_node o.name d))
unfolding size words tag_node
holds_close {l} {o = o} {top = top} {n} {d} (inside at s rest) few small room =
    let w = get_or l top 0 % 65536 + 65536 * (n - top) in
    let many : n - top ≡ suc (sizeD d) = omega (arith, s.count) in
    let four : unpacked w ≡ o.name ∷ suc (sizeD d) ∷ 0 ∷ 0 ∷ [] = rw (open_tag at few, many)
    (unpacked_tag o.name (suc (sizeD d)) (omega (arith, at.tag_few)) (omega (arith, s.count))) in
    rw (open_parent at few) (holds_more top w (omega arith) (λ a t. stands_more w (tag_node o.name d) d t s room refl (rw four)) rest)
