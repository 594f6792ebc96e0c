-- What a call of `write` says, check by check, and what the buffer then holds.
use mathlib.Core.Path.{◌≡◌, refl, sym, ◌∙◌}
use mathlib.Core.List.{List}
use Prim.Native.Nat.{ℕ, ◌/◌, ◌≤◌, ◌<◌}
use native.Mathlib.Omega.{arith}
use borrow.Author.Tests.{le-leb, lt-leb}
use lib.ListN.{length}
use Rattle.std.specs.Prelude.{Ok, Err}
use Rattle.model.specs.Answers.{Answer, refusal, said, said_refusal, Checked, passes, refuses, ◌>>=◌, ◌>>◌, require, room_for, answer_of}
use Rattle.model.specs.Answers.{buffer_after}
use Rattle.model.specs.Calls.{names_said, tree_said, write, write_said, write_out}
use Rattle.model.specs.Names.{names_of}
use Rattle.model.specs.Tree.{ε, ◌·◌, nodes}
use Rattle.model.specs.Written.{written, texts_checked, short_enough}
use Rattle.model.specs.declared.Refusal.{Refusal}
use Rattle.model.specs.declared.Refusal.TheVariants.{LongText, ShortBuffer, LongForm}
use Rattle.model.proofs.Answered.{counted, refused, names-refused, tree_refused}
use Rattle.model.proofs.CheckLaws.{refuses≢passes, passes_inj, then_inv}
use Rattle.model.proofs.DocumentLaws.{GoodNodes, texts-good}
use Rattle.write_measure.specs.Lengths.{measured}
use Rattle.write_bytes.proofs.Stores.{put_front}
use Rattle.write_bytes.specs.declared.Form.{Form}
use Rattle.write_form.specs.Stands.{Standing}
use Rattle.write_form.specs.Forms.{ReadyAt, PutsAt}
use Rattle.writer.specs.Passed.{Passed}
use Rattle.writer.proofs.PassedLaws.{passed-measured, passed-stands, passed-form}

-- a check that passes only what another one lets through refuses what that one does
then-refused : {A B : Type 0} (c : Checked A) (b : B) {m i : ℕ} → (c >> passes b) ≡ refuses m i → c ≡ refuses m i
unfolding ◌>>◌
then-refused (passes a) b e = absurd (refuses≢passes (sym e))
then-refused (refuses n i) b e = cc

-- The checks before 11 have passed, and r is the answer of the pass over the nodes.
pub record Measured (list source tree : List ℕ) (r : Answer) : Type 0 where
  pub passed : Passed list source tree
  pub answer : said r ≡ answer_of (λ m. m) (measured list source tree (length tree / 4) 0 0)

module _ (list source tree out : List ℕ) where
  -- the call says r and leaves the buffer `after`
  abbrev pub Says : Answer → List ℕ → Type 0
  Says r after = (said r ≡ write_said list source tree out) × (after ≡ write_out list source tree out)

  says_refusal : {m i : ℕ} (x : Refusal) → said_refusal x ≡ refusal m i → write list source tree (length out) ≡ refuses m i
      → Says (Err x) out
  unfolding said write_said write_out answer_of buffer_after
  says_refusal x s e = (s ∙ rw e, rw e)

  pub says-names : {r : Answer} {x : Refusal} → said r ≡ names_said list → r ≡ Err x → Says (Err x) out
  unfolding write ◌>>=◌
  says-names {x = x} h e = let (m, i, q, s) = names-refused list h e in says_refusal x s (rw q)

  module _ {g : ℕ} (names : names_of list ≡ passes g) where
    pub says_text : 65535 < length source → Says (Err LongText) out
    unfolding write require ◌>>◌ ◌>>=◌ said_refusal
    says_text h = says_refusal LongText refl (rw (names, lt-leb _ _ h))

    pub says_tree : {r : Answer} {x : Refusal} → length source ≤ 65535 → said r ≡ tree_said g tree → r ≡ Err x → Says (Err x) out
    unfolding write require ◌>>◌ ◌>>=◌
    says_tree {x = x} short h e = let (i, q, s) = tree_refused g tree h e in says_refusal x s (rw (names, le-leb _ _ short, q))

  module _ {r : Answer} (m : Measured list source tree r) where
    abbrev p : Passed list source tree
    p = m.passed

    pub says-words : {x : Refusal} → r ≡ Err x → Says (Err x) out
    unfolding write require ◌>>◌ ◌>>=◌
    says-words {x} h =
        let (k, i, q, s) = refused (λ k. k) _ m.answer h in
        let t = then-refused (texts_checked source 0 (nodes p.root)) _ (sym (passed-measured p) ∙ q) in
        says_refusal x s (rw (p.names, le-leb _ _ p.short, p.shape, t))

    module _ {b : ℕ} (h : r ≡ Ok b) where
      pass : (texts_checked source 0 (nodes p.root) ≡ passes tt) × (b ≡ length (written list source p.root))
      pass =
          let (a, q, s) = counted (λ k. k) _ m.answer h in
          let (u, t, v) = then_inv _ _ (sym (passed-measured p) ∙ q) in
          (t, sym s ∙ sym (passes_inj v))

      good-nodes : GoodNodes source (nodes p.root)
      good-nodes = (texts-good source 0 (nodes p.root)).0 pass.0

      -- the root alone is siblings
      pub root_stands : ∥ Standing list source tree 32 0 (length tree / 4) ∥₁
      root_stands = ∣ record { document = p.root · ε; stands = passed-stands p good-nodes } ∣₁

      -- and is ready to be put
      pub root_ready : {f : Form} → f.out.now ≡ out → f.at ≡ 0 → b ≤ length out → ReadyAt list source tree 32 0 (length tree / 4) f
      root_ready o z l = record {
        document = p.root · ε;
        stands = passed-stands p good-nodes;
        room = rw (passed-form p, o, z) (omega (arith, pass.1));
      }

      pub same_buffer : {f g : Form} → PutsAt list source tree 32 0 (length tree / 4) f g → g.out.ghost_name ≡ f.out.ghost_name
      same_buffer puts = (puts (p.root · ε) (passed-stands p good-nodes)).same

      pub says-long : 65535 < b → Says (Err (LongForm b)) out
      unfolding write require ◌>>◌ ◌>>=◌ short_enough said_refusal
      says-long k = says_refusal (LongForm b) refl (rw (p.names, le-leb _ _ p.short, p.shape, pass.0, ← pass.1, lt-leb _ _ k))

      module _ (k : b ≤ 65535) where
        pub says-short : length out < b → Says (Err (ShortBuffer b)) out
        unfolding write require ◌>>◌ ◌>>=◌ short_enough room_for said_refusal
        says-short l = says_refusal (ShortBuffer b) refl
            (rw (p.names, le-leb _ _ p.short, p.shape, pass.0, ← pass.1, le-leb _ _ k, ← pass.1, lt-leb _ _ l))

        all_pass : b ≤ length out → write list source tree (length out) ≡ passes (written list source p.root)
        unfolding write require ◌>>◌ ◌>>=◌ short_enough room_for
        all_pass l = rw (p.names, le-leb _ _ p.short, p.shape, pass.0, ← pass.1, le-leb _ _ k, ← pass.1, le-leb _ _ l)

        pub says-written : {f g : Form} → f.out.now ≡ out → f.at ≡ 0 → b ≤ length out
            → PutsAt list source tree 32 0 (length tree / 4) f g → Says (Ok b) g.out.now
        unfolding said write_said write_out answer_of buffer_after
        says-written o z l puts =
            let w = all_pass l in
            let h = (puts (p.root · ε) (passed-stands p good-nodes)).is in
            (rw (w, pass.1), put_front (rw (passed-form p, o, z) at h) (omega (arith, pass.1)) ∙ rw w)
