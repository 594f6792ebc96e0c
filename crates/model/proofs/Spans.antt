-- Words that stand in a list from one index to another, and readers: what a reader gets stands there as its words, and the words of a
-- part are read as that part.
use mathlib.Core.Path.{◌≡◌, refl, sym, ap, ◌∙◌, subst}
use mathlib.Core.Bool.{Bool, true, false, cond, ◌&&◌}
use mathlib.Core.List.Memᴰ
use mathlib.Core.List.{List, [], ◌∷◌, ◌++◌, map, flat_map, append_assoc, append-nil}
use Prim.Native.Nat.{ℕ, suc, ◌+◌, ◌≤◌, ◌<◌}
use native.Mathlib.Nat.{add_assoc}
use native.Mathlib.Numerals.{add-one}
use native.Mathlib.Omega.{arith}
use lib.Dec.{eqb, ltb}
use lib.ListN.{length, get_or, drop, length-append, length-drop, drop_of_length-le}
use lib.Seq.{drop-cons, drop_at, drop-drop}
use borrow.Author.Tests as tests
use Rattle.model.specs.Lists.{◌∈◌, numbers}
use Rattle.model.specs.Spans.{WordsAt}
use Rattle.model.specs.Sheet.{Got, got, bad, Reader, give, then, ◌>>=◌, word, between, below, one_of, all}
use Rattle.model.proofs.Tests.{Yes, same, between_yes, between_inv}
use Rattle.model.proofs.ListLaws.{length_from}

-- ---- words in a list

span_append : {s : List ℕ} {a b c : ℕ} {u v : List ℕ} → WordsAt s a b u → WordsAt s b c v → WordsAt s a c (u ++ v)
span_append {s} {a} {b} {c} {u} {v} x y = record {
  stands = x.stands ∙ ap (λ (l : List ℕ). u ++ l) y.stands ∙ sym (append_assoc u v (drop c s));
  ends = omega (arith, x.ends, y.ends, length-append u v);
}

module _ {s : List ℕ} {a c : ℕ} (u v : List ℕ) (x : WordsAt s a c (u ++ v)) where
  later : drop (a + length u) s ≡ v ++ drop c s
  later = sym (drop-drop (length u) a s) ∙ ap (drop (length u)) (x.stands ∙ append_assoc u v (drop c s)) ∙ drop_at u (v ++ drop c s)
      (length u) refl

  pub span_left : WordsAt s a (a + length u) u
  span_left = record { stands = x.stands ∙ append_assoc u v (drop c s) ∙ ap (λ (l : List ℕ). u ++ l) (sym later); ends = refl }

  pub span_right : WordsAt s (a + length u) c v
  span_right = record {
    stands = later;
    ends = x.ends ∙ ap (λ (n : ℕ). a + n)
        (length-append u v) ∙ sym (add_assoc a (length u) (length v));
  }

-- one word
pub span_word : {s : List ℕ} {a : ℕ} → a < length s → WordsAt s a (a + 1) (get_or s a 0 ∷ [])
span_word {s} {a} h = record { stands = drop-cons s a 0 h ∙ ap (λ (n : ℕ). get_or s a 0 ∷ drop n s) (sym (add-one a)); ends = refl }

module _ {s : List ℕ} {a b x : ℕ} {ws : List ℕ} (p : WordsAt s a b (x ∷ ws)) where
  pub word-there : a < length s
  word-there = omega (arith, length-drop a s, ap length p.stands)

  pub word-here : get_or s a 0 ≡ x
  word-here =
      let e : drop a s ≡ get_or s a 0 ∷ drop (suc a) s = drop-cons s a 0 word-there in
      let f : drop a s ≡ x ∷ (ws ++ drop b s) = p.stands in
      cc

  pub word_next : WordsAt s (a + 1) b ws
  word_next = span_right (x ∷ []) ws p

-- a list stands whole in itself, and what stands up to the end of a list is all of it
pub whole : (s : List ℕ) → WordsAt s 0 (length s) s
whole s = record {
  stands = sym (append-nil s) ∙ ap (λ (l : List ℕ). s ++ l)
      (sym (drop_of_length-le s {i = length s} (omega arith)));
  ends = omega arith;
}

pub whole_inv : {s ws : List ℕ} {b : ℕ} → length s ≤ b → WordsAt s 0 b ws → s ≡ ws
whole_inv {s} {ws} {b} h p = p.stands ∙ ap (λ (l : List ℕ). ws ++ l) (drop_of_length-le s {i = b} h) ∙ append-nil ws

-- ---- readers

-- A reader of parts: what it gets is in range and stands there as its words; where the words of a part in range stand, it gets that part.
pub record Reads {A : Type 0} (r : Reader A) (words : A → List ℕ) (In : A → Type 0) : Type 0 where
  pub forwards : {s : List ℕ} {a b : ℕ} {x : A} → r s a ≡ got x b → In x × WordsAt s a b (words x)
  pub backwards : {s : List ℕ} {a b : ℕ} {x : A} → In x → WordsAt s a b (words x) → r s a ≡ got x b

-- a reader that makes its value f x of fields x: the same, with the words and the range of the fields
pub record Makes {A X : Type 0} (r : Reader A) (f : X → A) (words : X → List ℕ) (In : X → Type 0) : Type 0 where
  pub forwards : {s : List ℕ} {a b : ℕ} {y : A} → r s a ≡ got y b → (x : X) × In x × (f x ≡ y) × WordsAt s a b (words x)
  pub backwards : {s : List ℕ} {a b : ℕ} (x : X) → In x → WordsAt s a b (words x) → r s a ≡ got (f x) b

-- from the one to the other, and back where the fields of a part in range are in range and have its words
pub as_made : {A : Type 0} {r : Reader A} {words : A → List ℕ} {In : A → Type 0} → Reads r words In → Makes r (λ x. x) words In
as_made h = record {
  forwards = λ {y = y} e. let (i, p) = h.forwards e in (y, i, refl, p);
  backwards = λ x i p. h.backwards i p;
}

pub reads_by : {A X : Type 0} {r : Reader A} {f : X → A} {words : X → List ℕ} {In : X → Type 0} {words' : A → List ℕ} {In' : A → Type 0} →
    Makes r f words In
    → ((x : X) → In x → In' (f x) × (words x ≡ words' (f x)))
    → ((y : A) → In' y → (x : X) × In x × (f x ≡ y) × (words x ≡ words' y))
    → Reads r words' In'
reads_by {words' = words'} {In' = In'} h there back = record {
  forwards = λ {s} {a} {b} e.
      let (x, i, ey, p) = h.forwards e in
      let (j, ew) = there x i in
      subst (λ y. In' y × WordsAt s a b (words' y)) ey (j, subst (WordsAt s a b) ew p);
  backwards = λ {s} {a} {b} {x = y} j p.
      let (x, i, ey, ew) = back y j in
      h.backwards x i (subst (WordsAt s a b) (sym ew) p) ∙ ap (λ z. got z b) ey;
}

-- a bad place is no value
not_got : {A P : Type 0} {k b : ℕ} {x : A} → ◌≡◌ {A = Got A} (bad k) (got x b) → P
not_got e = absurd (let z : ◌≡◌ {A = ℕ} 0 1 = cc in omega arith)

-- ---- a word

word_inv : (ok : ℕ → Bool) {s : List ℕ} {a b x : ℕ} → word ok s a ≡ got x b → Yes (ok x) × WordsAt s a b (x ∷ [])
unfolding word
word_inv ok {s} {a} {b} {x} e = go (ltb a (length s)) refl (ok (get_or s a 0)) refl e
  where
    go : (t : Bool) → ltb a (length s) ≡ t → (u : Bool) → ok (get_or s a 0) ≡ u → cond (t && u) (got (get_or s a 0) (a + 1)) (bad a) ≡ got x b
        → Yes (ok x) × WordsAt s a b (x ∷ [])
    go true l true k e =
        let ex : get_or s a 0 ≡ x = cc in
        let eb : a + 1 ≡ b = cc in
        (rw ex at k, rw (ex, eb) at (span_word {s = s} {a = a} (tests.ltb-true a (length s) l)))
    go true l false k e = not_got e
    go false l u k e = not_got e

pub word-reads : (ok : ℕ → Bool) → Reads (word ok) (λ x. x ∷ []) (λ x. Yes (ok x))
unfolding word
word-reads ok = record {
  forwards = λ e. word_inv ok e;
  backwards = λ {s} {a} {x = x} i p. rw (tests.lt-ltb a (length s) (word-there p), word-here p, i) (ap (got x) (sym p.ends));
}

pub below-reads : (n : ℕ) → Reads (word (below n)) (λ x. x ∷ []) (λ x. x < n)
below-reads n = reads_by (as_made (word-reads (below n))) (λ x y. (tests.ltb-true x n y, refl)) (λ x h. (x, tests.lt-ltb x n h, refl, refl))

pub between-reads : (m n : ℕ) → Reads (word (between m n)) (λ x. x ∷ []) (λ x. (m ≤ x) × (x ≤ n))
between-reads m n = reads_by (as_made (word-reads (between m n))) (λ x y. (between_inv m n x y, refl))
    (λ x (h, k). (x, between_yes m n x h k, refl, refl))

-- ---- one reader after another

then_inv : {A B : Type 0} (s : List ℕ) (g : Got A) (f : A → Reader B) {y : B} {b : ℕ} → then s g f ≡ got y b → (x : A) × (n : ℕ) ×
    (g ≡ got x n) × (f x s n ≡ got y b)
unfolding then
then_inv s (got x n) f e = (x, n, refl, e)
then_inv s (bad k) f e = not_got e

module _ {A B : Type 0} {r : Reader A} {words : A → List ℕ} {In : A → Type 0} (h : Reads r words In) where
  -- the rest is read by a reader that the first value chooses
  pub then_makes : {X : A → Type 0} {f : A → Reader B} {g : (x : A) → X x → B} {words' : (x : A) → X x → List ℕ}
      {In' : (x : A) → X x → Type 0}
      → ((x : A) → In x → Makes (f x) (g x) (words' x) (In' x))
      → Makes {X = (x : A) × X x} (r >>= f) (λ t. g t.0 t.1) (λ t. words t.0 ++ words' t.0 t.1)
      (λ t. In t.0 × In' t.0 t.1)
  unfolding then
  then_makes {f = f} {words' = words'} k = record {
    forwards = λ {s} {a} e.
        let (x, n, e₁, e₂) = then_inv s (r s a) f e in
        let (i, p) = h.forwards e₁ in
        let (t, j, ey, q) = (k x i).forwards e₂ in
        ((x, t), (i, j), ey, span_append p q);
    backwards = λ (x, t) (i, j) p.
        let u = words x in
        let v = words' x t in
        rw (h.backwards i (span_left u v p)) ((k x i).backwards t j (span_right u v p));
  }

  -- nothing is left to read
  pub given : (g : A → B) → Makes (r >>= λ x. give (g x)) g words In
  unfolding then
  given g = record {
    forwards = λ {s} {a} {b} {y} e.
        let (x, n, e₁, e₂) = then_inv s (r s a) (λ x. give (g x)) e in
        let (i, p) = h.forwards e₁ in
        let ey : g x ≡ y = cc in
        let eb : n ≡ b = cc in
        (x, i, ey, rw eb at p);
    backwards = λ x i p. rw (h.backwards i p);
  }

give_makes : {A : Type 0} (y : A) → Makes (give y) (λ (u : Unit {0}). y) (λ u. []) (λ u. Unit {0})
give_makes y = record {
  forwards = λ {s} {a} {b} {y = z} e.
      let ey : y ≡ z = cc in
      let eb : a ≡ b = cc in
      (tt, tt, ey, record { stands = ap (λ (n : ℕ). drop n s) eb; ends = omega arith });
  backwards = λ {a = a} {b = b} u i p. let e : a ≡ b = omega (arith, p.ends) in ap (got y) e;
}

-- ---- a list of parts

-- the elements of the second list fit those of the first, one by one
pub data Along {A B : Type 0} (In : B → A → Type 0) : List B → List A → Type 0 where
  done : Along In [] []
  also : {q : B} {l : List B} {x : A} {xs : List A} → In q x → Along In l xs → Along In (q ∷ l) (x ∷ xs)

pub all-reads : {A B : Type 0} {r : B → Reader A} {words : A → List ℕ} {In : B → A → Type 0} → ((q : B) → Reads (r q) words (In q)) →
    (l : List B)
    → Reads (all r l) (flat_map words) (Along In l)
unfolding all flat_map
all-reads {A} {words = words} {In = In} h [] = reads_by (give_makes []) (λ u i. (done, refl)) back
  where
    back : (xs : List A) → Along In [] xs → (u : Unit {0}) × Unit {0} × (◌≡◌ {A = List A} [] xs) × (◌≡◌ {A = List ℕ} [] (flat_map words xs))
    back xs done = (tt, tt, refl, refl)
all-reads {A} {words = words} {In = In} h (q ∷ l) =
    reads_by (then_makes (h q) (λ x _. given (all-reads h l) (λ xs. x ∷ xs))) (λ (x, xs) (i, is). (also i is, refl)) back
  where
    back : (xs : List A) → Along In (q ∷ l) xs
        → (t : A × List A) × (In q t.0 × Along In l t.1) × (t.0 ∷ t.1 ≡ xs) ×
        (words t.0 ++ flat_map words t.1 ≡ flat_map words xs)
    back ys (also {x = x} {xs = xs} i is) = ((x, xs), (i, is), refl, refl)

-- what holds of one element and of all others
pub one_more : {A : Type 0} {P : A → Type 0} {x : A} {xs : List A} → P x → ((y : A) → y ∈ xs → P y) → (y : A) → y ∈ x ∷ xs → P y
one_more {P = P} h hs y (Memᴰ.head e) = subst P (sym e) h
one_more h hs y (Memᴰ.tail m) = hs y m

-- n parts that one reader reads
pub repeated : {A : Type 0} {r : Reader A} {words : A → List ℕ} {In : A → Type 0} → Reads r words In → (n : ℕ)
    → Reads (all (λ i. r) (numbers n)) (flat_map words) (λ xs. (length xs ≡ n) × ((x : A) → x ∈ xs → In x))
repeated {A} {In = In} h n =
    reads_by (as_made (all-reads (λ i. h) (numbers n)))
    (λ xs i. let (e, k) = apart i in ((e ∙ length_from n 0, k), refl))
    (λ xs (e, i). (xs, along (numbers n) xs (e ∙ sym (length_from n 0)) i, refl, refl))
  where
    apart : {l : List ℕ} {xs : List A} → Along (λ q. In) l xs → (length xs ≡ length l) × ((x : A) → x ∈ xs → In x)
    apart done = (refl, λ x m. absurd (Memᴰ.not-nil m))
    apart (also i is) = let (e, k) = apart is in (ap suc e, one_more i k)

    along : (l : List ℕ) (xs : List A) → length xs ≡ length l → ((x : A) → x ∈ xs → In x) → Along (λ q. In) l xs
    along [] [] e i = done
    along [] (x ∷ xs) e i = absurd (omega arith)
    along (q ∷ l) [] e i = absurd (omega arith)
    along (q ∷ l) (x ∷ xs) e i = also (i x (Memᴰ.head refl)) (along l xs (omega arith) (λ y m. i y (Memᴰ.tail m)))

-- parts of one word each
pub singly : {A : Type 0} {r : Reader (List A)} {In : List A → Type 0} (f : A → ℕ) → Reads r (flat_map (λ x. f x ∷ [])) In → Reads r
    (map f) In
unfolding flat_map
singly {A} f h = reads_by (as_made h) (λ l i. (i, same-words l)) (λ l i. (l, i, refl, same-words l))
  where
    same-words : (l : List A) → flat_map (λ x. f x ∷ []) l ≡ map f l
    same-words [] = refl
    same-words (x ∷ l) = ap (λ (r : List ℕ). f x ∷ r) (same-words l)

-- ---- a key, and the reader that it chooses

abbrev chosen : {A : Type 0} → ℕ → List (ℕ × Reader A) → Reader A
chosen k [] s a = bad a
chosen k (c ∷ cs) s a = cond (eqb k c.0) (c.1 s (a + 1)) (chosen k cs s a)

pub at_key : {A : Type 0} (cs : List (ℕ × Reader A)) {s : List ℕ} {a b k : ℕ} {ws : List ℕ} → WordsAt s a b
    (k ∷ ws) → one_of cs s a ≡ chosen k cs s a
unfolding one_of
at_key [] p = refl
at_key (c ∷ cs) {s} {a} {k = k} p = rw (tests.lt-ltb a (length s) (word-there p), word-here p)
    (ap (λ g. cond (eqb k c.0) (c.1 s (a + 1)) g) (at_key cs p))

-- a table: each of its readers makes parts in range, whose words are its key and the fields' words
pub data Rows {A : Type 0} (words : A → List ℕ) (In : A → Type 0) : List (ℕ × Reader A) → Type 1 where
  no_row : Rows words In []
  row : {X : Type 0} (k : ℕ) {r : Reader A} {f : X → A} {words' : X → List ℕ} {In' : X → Type 0} {cs : List (ℕ × Reader A)} → Makes r f
      words' In'
      → ((x : X) → In' x → In (f x) × (k ∷ words' x ≡ words (f x))) → Rows words In cs → Rows words In ((k, r) ∷ cs)

one_of_inv : {A : Type 0} {words : A → List ℕ} {In : A → Type 0} {cs : List (ℕ × Reader A)} → Rows words In cs → {s : List ℕ} {a b : ℕ}
    {y : A}
    → one_of cs s a ≡ got y b → In y × WordsAt s a b (words y)
unfolding one_of
one_of_inv no_row e = not_got e
one_of_inv {words = words} {In = In} (row k {r} {cs = cs} h there rest) {s} {a} {b} {y} e =
    go (ltb a (length s)) refl (eqb (get_or s a 0) k) refl (λ e. one_of_inv rest e) e
  where
    go : (t : Bool) → ltb a (length s) ≡ t → (u : Bool) → eqb (get_or s a 0) k ≡ u →
        (one_of cs s a ≡ got y b → In y × WordsAt s a b (words y))
        → cond (t && u) (r s (a + 1)) (one_of cs s a) ≡ got y b → In y × WordsAt s a b (words y)
    go true l true j other e =
        let (x, i, ey, p) = h.forwards e in
        let (i', ew) = there x i in
        let key : WordsAt s a (a + 1) (k ∷ []) = rw (same (get_or s a 0) k j)
        at (span_word {s = s} {a = a} (tests.ltb-true a (length s) l)) in
        (rw ey at i', rw (ew, ey) at (span_append key p))
    go true l false j other e = other e
    go false l u j other e = other e

pub one_of_reads : {A : Type 0} {words : A → List ℕ} {In : A → Type 0} {cs : List (ℕ × Reader A)} → Rows words In cs
    → ((x : A) → In x → (s : List ℕ) (a b : ℕ) → WordsAt s a b (words x) → one_of cs s a ≡ got x b)
    → Reads (one_of cs) words In
one_of_reads h back = record { forwards = λ e. one_of_inv h e; backwards = λ {s} {a} {b} {x} i p. back x i s a b p }
