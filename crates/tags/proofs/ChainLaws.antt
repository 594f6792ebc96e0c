-- Chains of tags: the bucket of a name, and the way along a chain.
use mathlib.Core.Path.{◌≡◌, refl, sym, ap, ◌∙◌}
use mathlib.Core.Logic.{◌≢◌}
use mathlib.Core.Bool.{Bool, true, false, cond}
use mathlib.Core.List.{List, [], ◌∷◌}
use Prim.Native.Nat.{ℕ, zero, suc, ◌+◌, ◌-◌, ◌*◌, ◌%◌, ◌≤◌, ◌<◌}
use native.Mathlib.Omega.{arith}
use native.Mathlib.Decide.{ℕ_discrete}
use borrow.Author.Tests.{eq-eqb, ne_eqb}
use lib.ListN.{length, get_or}
use Rattle.model.specs.Answers.{passes}
use Rattle.model.specs.Bytes.{same_bytes}
use Rattle.model.specs.Names.{name_of, tag_of, names_of}
use Rattle.std.proofs.lemmas.Option.{none-some, same_Some}
use Rattle.model.proofs.Tests.{never}
use Rattle.model.proofs.NameLaws.{same-bytes_refl, bytes_same, tag_of_name, tag_some, tag_few, name_of_tag}
use Rattle.offsets.specs.Lines.{line_count}
use Rattle.std.specs.Prelude.{Some, None}
use Rattle.tags.specs.declared.Table.{Table}
use Rattle.tags.specs.Tables.{first_of, next_of, name_by, bucket, along, found_by, tag_or_none, Last, TableOf}
use Rattle.tags.proofs.TagLaws.{name_is}

-- ---- buckets

pub bucket_none : (name : List ℕ) → length name ≡ 0 → 0 ≡ bucket name
unfolding bucket
bucket_none [] e = refl
bucket_none (b ∷ s) e = absurd (omega arith)

pub bucket-small : (name : List ℕ) → bucket name < 64
unfolding bucket
bucket-small name = omega arith

pub bucket-some : (name : List ℕ) {i : ℕ} → i ≡ length name - 2 →
    (get_or name 0 0 + 9 * get_or name i 0 + get_or name (length name - 1) 0) % 64 ≡ bucket name
unfolding bucket
bucket-some name e = rw e

-- ---- a tag as it is told

pub tag_told : (t n : ℕ) → t ≢ 0 → t ≡ n → Some t ≡ tag_or_none n
tag_told zero n some e = absurd (some refl)
tag_told (suc t) n some e = rw (← e) refl

pub none_told : (n : ℕ) → 0 ≡ n → None ≡ tag_or_none n
none_told n e = rw (← e) refl

pub told_tag : (n t : ℕ) → Some t ≡ tag_or_none n → (t ≡ n) × (t ≢ 0)
told_tag zero t e = absurd (none-some t (sym e))
told_tag (suc n) t e = let s = same_Some t (suc n) e in (s, λ z. omega (arith, s))

pub told_none : (n : ℕ) → None ≡ tag_or_none n → n ≡ 0
told_none zero e = refl
told_none (suc n) e = absurd (none-some (suc n) e)

-- ---- along a chain

module _ (list : List ℕ) (table : Table) (name : List ℕ) where
  pub along_past : (n t : ℕ) → n < t → 0 ≡ along list table name n t
  unfolding along
  along_past zero t h = refl
  along_past (suc n) t h = rw (ne_eqb t (suc n) (λ e. omega arith)) (along_past n t (omega arith))

  pub along-from : (n t : ℕ) → t ≤ n → along list table name n t ≡ along list table name t t
  unfolding along
  along-from zero t h = let z : t ≡ 0 = omega arith in rw z
  along-from (suc n) t h = by (ℕ_discrete t (suc n)) (along-from n t)
    where
      by : Dec (t ≡ suc n) → (t ≤ n → along list table name n t ≡ along list table name t t)
          → along list table name (suc n) t ≡ along list table name t t
      by (yes e) ih = rw e
      by (no e) ih = rw (ne_eqb t (suc n) e) (ih (omega arith))

  -- the way from tag t on finds what the whole way finds
  module _ {all t : ℕ} (left : all ≡ along list table name t t) where
    pub along-end : t ≡ 0 → 0 ≡ all
    unfolding along
    along-end z = sym (left ∙ rw z)

    -- `part` is the name of tag t, and `same` tells whether it is the name
    module _ (some : t ≢ 0) {part : List ℕ} (is : part ≡ name_by list table t) {same : Bool} (e : same ≡ same_bytes part name) where
      look : all ≡ cond same t (along list table name (t - 1) (next_of table t))
      unfolding along
      look =
          let m : t ≡ suc (t - 1) = omega arith in
          left ∙ ap (λ (k : ℕ). along list table name k t) m ∙ rw (eq-eqb t (suc (t - 1)) m, ← is, ← e)

      pub along-here : same ≡ true → t ≡ all
      along-here g = sym (look ∙ rw g)

      pub along_stop : same ≡ false → t ≤ next_of table t → 0 ≡ all
      along_stop g h = along_past (t - 1) (next_of table t) (omega arith) ∙ sym (look ∙ rw g)

      pub along-on : same ≡ false → next_of table t < t → all ≡ along list table name (next_of table t) (next_of table t)
      along-on g h = look ∙ rw g (along-from (t - 1) (next_of table t) (omega arith))

-- r is a tag up to tag a with the name, or 0 where there is none
pub record Found (list name : List ℕ) (a r : ℕ) : Type 0 where
  pub few : r ≤ a
  pub named : r ≢ 0 → name_of list r ≡ name
  pub none : r ≡ 0 → (b : ℕ) → 1 ≤ b → b ≤ a → name_of list b ≢ name

-- every tag up to tag a with the name is still ahead, from tag t on
record Ahead (list name : List ℕ) (a t : ℕ) : Type 0 where
  few : t ≤ a
  there : 0 < t → bucket (name_of list t) ≡ bucket name
  ahead : (b : ℕ) → 1 ≤ b → b ≤ a → name_of list b ≡ name → b ≤ t

module _ {list : List ℕ} {table : Table} {a : ℕ} (made : TableOf list table a) (listed : a ≤ line_count list) (name : List ℕ) where
  ahead_next : (t : ℕ) → Ahead list name a t → t ≢ 0 → same_bytes (name_of list t) name ≡ false → Ahead list name a (next_of table t)
  ahead_next t h some e =
      let l = made.next t (omega arith) h.few in
      let in_bucket = h.there (omega arith) in
      record {
        few = omega (arith, l.few, h.few);
        there = λ p. l.there p ∙ in_bucket;
        ahead = λ b p q g.
            let ne : b ≢ t = λ z. never (sym e ∙ ap (λ (x : ℕ). same_bytes (name_of list x) name)
            (sym z) ∙ ap (λ (s : List ℕ). same_bytes s name) g ∙ same-bytes_refl name) in
            l.most b p (omega (arith, h.ahead b p q g)) (ap bucket g ∙ sym in_bucket);
      }

  found_none : (t : ℕ) → Ahead list name a t → t ≡ 0 → Found list name a 0
  found_none t h z = record {
    few = omega arith;
    named = λ n. absurd (n refl);
    none = λ _ b p q g. absurd (omega (arith, h.ahead b p q g));
  }

  walked : (n t : ℕ) → t ≤ n → Ahead list name a t → Found list name a (along list table name n t)
  unfolding along
  walked zero t i h = found_none t h (omega arith)
  walked (suc n) t i h = by (ℕ_discrete t (suc n)) (walked n)
    where
      Is : Type 0
      Is = Found list name a (along list table name (suc n) t)

      by : Dec (t ≡ suc n) → ((u : ℕ) → u ≤ n → Ahead list name a u → Found list name a (along list table name n u)) → Is
      by (no e) ih = rw (ne_eqb t (suc n) e) (ih t (omega arith) h)
      by (yes e) ih = look (same_bytes (name_by list table t) name) refl
        where
          own : name_by list table t ≡ name_of list t
          own = name_is list table t made.index (omega arith) (omega (arith, h.few))

          look : (b : Bool) → same_bytes (name_by list table t) name ≡ b → Is
          look true g = rw (eq-eqb t (suc n) e, g)
              (record { few = h.few; named = λ _. sym own ∙ bytes_same _ _ g; none = λ z. absurd (omega arith) })
          look false g = rw (eq-eqb t (suc n) e, g)
              (ih _ (omega (arith, (made.next t (omega arith) h.few).few)) (ahead_next t h (λ z. omega arith) (rw own at g)))

  -- a name's chain has its tag
  pub found : {h r : ℕ} → h ≡ bucket name → h < 64 → r ≡ along list table name 64 (first_of table h) → Found list name a r
  found {h} is small e =
      let l : Last list a (bucket name) (first_of table h) = rw (← is) (made.first h small) in
      rw e (walked 64 (first_of table h) (omega (arith, l.few))
      (record { few = l.few; there = l.there; ahead = λ b p q g. l.most b p q (ap bucket g) }))

  pub found_all : {r : ℕ} → r ≡ found_by list table name → Found list name a r
  found_all e = found refl (bucket-small name) e

-- in a checked list that is its tag
pub found_tag : {list name : List ℕ} {a r : ℕ} → names_of list ≡ passes a → Found list name a r → r ≡ tag_of list name
found_tag {list} {name} {a} {r} checked f = by (ℕ_discrete r 0)
  where
    by : Dec (r ≡ 0) → r ≡ tag_of list name
    by (no some) = sym (tag_of_name list a checked r (omega arith) f.few) ∙ ap (tag_of list) (f.named some)
    by (yes z) = unlisted (ℕ_discrete (tag_of list name) 0)
      where
        unlisted : Dec (tag_of list name ≡ 0) → r ≡ tag_of list name
        unlisted (yes e) = z ∙ sym e
        unlisted (no e) = absurd (f.none z (tag_of list name) (tag_some list a checked name e) (tag_few list a checked name e)
            (name_of_tag list a checked name e))
