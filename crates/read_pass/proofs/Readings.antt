-- How far a text is read, token by token: from what a token's bytes are to what is read behind it, or to its refusal.
use mathlib.Core.Path.{◌≡◌, refl, sym, ap, ◌∙◌}
use mathlib.Core.Logic.{◌≢◌, ◌⊎◌, inl, inr}
use mathlib.Core.Bool.{Bool, true, false, cond, ◌||◌}
use mathlib.Core.List.{List, [], ◌∷◌}
use Prim.Native.Nat.{ℕ, suc, ◌+◌, ◌-◌, ◌*◌, ◌%◌, ◌≤◌, ◌<◌}
use native.Mathlib.Numerals.{add-one}
use native.Mathlib.Omega.{arith}
use native.Mathlib.Decide.{ℕ_discrete, dec_le}
use lib.Dec.{eqb, leb}
use borrow.Author.Tests.{leb-true, le-leb}
use lib.ListN.{length, get_or, drop, take, set, length-set, length-drop}
use lib.Seq.{drop-drop, length-take-le}
use Rattle.std.specs.Prelude.{Ok, Err}
use Rattle.model.specs.Answers.{said_refusal, refusal, Checked, refuses}
use Rattle.model.specs.Tree.{Span, Element, Document, ε}
use Rattle.model.specs.Bytes.{is_name, same_bytes, kind_of_text}
use Rattle.model.specs.Names.{tag_of}
use Rattle.model.specs.Text.{Place, before, root_open, blank, tag_open, start_gap, start_slash, end_open, end_gap, after, Open, innermost}
use Rattle.model.specs.Text.{name_at, text_at, behind, text_node, outside, closed, form_of}
use Rattle.model.specs.Written.{text_byte}
use Rattle.model.specs.declared.Refusal.{Refusal}
use Rattle.model.specs.declared.Refusal.TheVariants.{ForbiddenByte, Syntax, UnknownName, OtherName, Depth, ManyNodes}
use Rattle.model.proofs.Scan.{scan-is}
use Rattle.model.proofs.Tests.{Yes, never, or_left, or_right, or_cases, same, eqb_yes}
use Rattle.model.proofs.NameLaws.{bytes_same, tag_few}
use Rattle.model.specs.Text.{state, an_open}
use Rattle.offsets.specs.Lines.{line_count}
use Rattle.tags.specs.declared.Table.{Table}
use Rattle.tags.specs.Tables.{name_by}
use Rattle.read_names.specs.Listing.{Listing}
use Rattle.read_nodes.specs.Packed.{packed, unpacked, closed_words, closed_scan, Holds, outermost, inside}
use Rattle.read_scan.specs.Scans.{at_offset, scan_at, stop_number, stop_by}
use Rattle.read_pass.specs.Reading.{Reads, ReadsAt, AtStartTag, InContent, AtToken, Solid, Refuses, Step, Goes, Whole}
use Rattle.read_runs.specs.Runs.{run, class_within, first_class, trim}
use Rattle.read_scan.specs.declared.Scan.{Scan}
use Rattle.model.proofs.TextLaws.{kind_range}
use Rattle.read_runs.proofs.RunLaws.{byte_there, no_white_run, run-within, name-run, name-first, name-length, text_run, trim-most}
use Rattle.read_names.proofs.TagLaws.{named_well, tag_named, tag_other}
use Rattle.read_pass.proofs.Steps.{onward}
use Rattle.read_pass.proofs.Tokens.{Waits, before_waits, blank_waits, start_gap_waits, end_gap_waits, after_waits, Leads, at-root}
use Rattle.read_pass.proofs.Tokens.{in_content, white_run, white_left, less_on, too_deep, too_many, unknown, opened, start-ends}
use Rattle.read_pass.proofs.Tokens.{slash_on, empty_ends, end_on, end-ends, other_name, own_name, text_end, text_too_many, text_ends}
use Rattle.read_pass.proofs.Tokens.{text_broken, stuck_before, stuck_root_open, stuck_tag_open, stuck_blank, stuck_start_gap}
use Rattle.read_pass.proofs.Tokens.{stuck_start_slash, stuck_end_open, stuck_end_gap, stuck_after, all_read}
use Rattle.read_nodes.proofs.PackLaws.{holds_none, holds-all, packed_tag, unpacked-packed, holds_open, holds_text, open_tag, top_read}
use Rattle.read_nodes.proofs.PackLaws.{parent_above, holds_close}

-- ---- refusals, and steps that read no node

module _ {list text words : List ℕ} {place : List Open → Place} {s : Scan} (r : Reads list text words place s) where
  -- from where it is read, on
  abbrev pub rest_of : Checked Document
  rest_of = onward list text (state (place r.opened) r.content r.opened s.nodes) s.at

  pub refused : {n i : ℕ} {x : Refusal} → rest_of ≡ refuses n i → said_refusal x ≡ refusal n i → Refuses (form_of list text) x
  refused {n} {i} e f = record { number = n; place = i; is = r.goes ∙ e; says = f }

  pub stopped : (k at : ℕ) → rest_of ≡ refuses (stop_number k) at → Refuses (form_of list text) (stop_by k at)
  unfolding said_refusal
  stopped k at e = by (eqb k 8) (r.goes ∙ e)
    where
      by : (t : Bool) → form_of list text ≡ refuses (cond t 2 3) at → Refuses (form_of list text) (cond t (ForbiddenByte at) (Syntax at))
      by true e = record { number = 2; place = at; is = e; says = refl }
      by false e = record { number = 3; place = at; is = e; says = refl }

  pub reads_on : (to : List Open → Place) (at : ℕ) → at ≤ length text
      → rest_of ≡ onward list text (state (to r.opened) r.content r.opened s.nodes) at → Reads list text words to
      (at_offset s at)
  reads_on to at h e = record {
    content = r.content;
    opened = r.opened;
    goes = r.goes ∙ e;
    holds = r.holds;
    deep = r.deep;
    above = r.above;
    few = r.few;
    within = h;
    short = r.short;
    room = r.room;
  }

-- in content, an element is open
outside-some : (os : List Open) → 1 ≤ length os → outside os ≡ blank
unfolding outside
outside-some [] h = absurd (omega arith)
outside-some (o ∷ os) h = refl

module _ {list text words : List ℕ} {s : Scan} (deep : 1 ≤ s.depth) where
  pub reads-blank : Reads list text words outside s → ReadsAt list text words blank s
  reads-blank r =
      reads_on r (λ os. blank) s.at r.within
      (ap (λ p. onward list text (state p r.content r.opened s.nodes) s.at)
      (outside-some r.opened (omega (arith, r.deep))))

  pub reads-outside : ReadsAt list text words blank s → Reads list text words outside s
  reads-outside r =
      reads_on r outside s.at r.within
      (ap (λ p. onward list text (state p r.content r.opened s.nodes) s.at)
      (sym (outside-some r.opened (omega (arith, r.deep)))))

-- past white
module _ {list text words : List ℕ} {p : Place} {s : Scan} (r : ReadsAt list text words p s) (at : ℕ)
    (skipped : at ≡ s.at + run (class_within 0 0) (drop s.at text)) where
  pub past_white : Waits p → ReadsAt list text words p (at_offset s at)
  past_white w = rw skipped (reads_on r (λ os. p) _ (run-within (class_within 0 0) text s.at r.within)
      (white_run list text r.content r.opened s.nodes p w s.at))

  pub no_white_left : (k : ℕ) → k ≡ first_class (drop at text) → k ≢ 0
  no_white_left k e z = white_left (drop s.at text) (rw drop-drop (ap (λ (i : ℕ). first_class (drop i text)) (sym skipped) ∙ sym e ∙ z))

-- ---- an element ends

-- by the elements that are open
module _ {list text words : List ℕ} {place : List Open → Place} {s : Scan} (r : Reads list text words place s) (deep : 1 ≤ s.depth)
    (at : ℕ) (inside_text : at ≤ length text) (ends : rest_of r ≡ onward list text (closed r.content r.opened s.nodes) at) where
  closes_by : (os : List Open) → length os ≡ s.depth → Holds words (line_count list) os s.top s.nodes r.content
      → form_of list text ≡ onward list text (closed r.content os s.nodes) at → Reads list text (closed_words words s) outside
      (closed_scan words s at)
  unfolding closed
  closes_by [] d h e = absurd (omega arith)
  closes_by (o ∷ os) d h e =
      let top = top_read h in
      record {
        content = _;
        opened = os;
        goes = e;
        holds = holds_close h (omega arith) r.few (omega (arith, r.room, r.few));
        deep = omega arith;
        above = omega (arith, parent_above h (omega arith));
        few = r.few;
        within = inside_text;
        short = r.short;
        room = length-set words s.top (get_or words s.top 0 % 65536 + 65536 * (s.nodes - s.top)) ∙ r.room;
      }

  pub closes : Reads list text (closed_words words s) outside (closed_scan words s at)
  closes = closes_by r.opened r.deep r.holds (r.goes ∙ ends)

-- ---- behind the name of a start tag

module _ {list text words : List ℕ} {s : Scan} (r : ReadsAt list text words start_gap s) (deep : 1 ≤ s.depth) (at class : ℕ)
    (skipped : at ≡ s.at + run (class_within 0 0) (drop s.at text)) (told : class ≡ first_class (drop at text)) where
  gap : ReadsAt list text words start_gap (at_offset s at)
  gap = past_white r at skipped start_gap_waits

  pub gap_ends : class ≡ 5 → Reads list text words outside (at_offset s (at + 1))
  gap_ends e =
      reads-outside deep (reads_on gap (λ os. blank) (at + 1) (omega (arith, byte_there text at (omega arith)))
      (start-ends list text gap.content gap.opened s.nodes at (sym told ∙ e)))

  pub gap_stuck : class ≢ 5 → class ≢ 6 → Refuses (form_of list text) (stop_by class at)
  gap_stuck a b = stopped gap class
      at (stuck_start_gap list text gap.content gap.opened s.nodes at class (sym told) (no_white_left r at skipped class told) a b)

  -- and behind the / of an empty one
  module _ (slash_there : class ≡ 6) (last : ℕ) (told_last : last ≡ first_class (drop (at + 1) text)) where
    slash_next : rest_of gap ≡ onward list text (state start_slash gap.content gap.opened s.nodes) (at + 1)
    slash_next = slash_on list text gap.content gap.opened s.nodes at (sym told ∙ slash_there)

    pub slash_stuck : last ≢ 5 → Refuses (form_of list text) (stop_by last (at + 1))
    slash_stuck h = stopped gap last (at + 1)
        (slash_next ∙ stuck_start_slash list text gap.content gap.opened s.nodes (at + 1) last (sym told_last) h)

    pub slash_ends : last ≡ 5 → Reads list text (closed_words words s) outside (closed_scan words s (at + 2))
    slash_ends e =
        let two : at + 1 + 1 ≡ at + 2 = omega arith in
        rw (← two)
        (closes gap deep (at + 1 + 1) (omega (arith, byte_there text (at + 1) (omega arith)))
        (slash_next ∙ empty_ends list text gap.content gap.opened s.nodes (at + 1) (sym told_last ∙ e)))

-- ---- a start tag

module _ {list text words : List ℕ} {table : Table} {s : Scan} (listing : Listing list table) (a : AtStartTag list text words s) where
  place-leads : (place : Place) → (place ≡ before) ⊎ (place ≡ blank) → (q : Place) × Leads place q
  place-leads place (inl e) = (root_open, rw e at-root)
  place-leads place (inr e) = (tag_open, rw e in_content)

  leads : Leads a.place (place-leads a.place a.leads).0
  leads = (place-leads a.place a.leads).1

  -- the name begins within the text
  pub name-there : s.at + 1 < length text
  name-there = byte_there text (s.at + 1) (omega (arith, a.letter_next))

  pub tag_too_deep : 32 ≤ s.depth → Refuses (form_of list text) (Depth s.at)
  unfolding said_refusal
  tag_too_deep h =
      let r = a.reads in
      refused r (too_deep list text r.content r.opened s.nodes leads s.at a.opening a.letter_next
      (omega (arith, r.deep))) refl

  module _ (deep : s.depth < 32) where
    pub tag_too_many : 4096 ≤ s.nodes → Refuses (form_of list text) (ManyNodes s.at)
    unfolding said_refusal
    tag_too_many h =
        let r = a.reads in
        refused r (too_many list text r.content r.opened s.nodes leads s.at a.opening a.letter_next
        (omega (arith, r.deep)) h) refl

    module _ (few : s.nodes < 4096) (bytes tag : ℕ) (bytes_is : bytes ≡ run (class_within 1 3) (drop (s.at + 1) text))
        (found : tag ≡ tag_of list (take bytes (drop (s.at + 1) text))) where
      tag_is : tag_of list (name_at (drop (s.at + 1) text)) ≡ tag
      tag_is = ap (tag_of list) (name-run (drop (s.at + 1) text) ∙ ap (λ (m : ℕ). take m (drop (s.at + 1) text)) (sym bytes_is)) ∙ sym found

      pub tag_unknown : tag ≡ 0 → Refuses (form_of list text) (UnknownName (s.at + 1))
      unfolding said_refusal
      tag_unknown e =
          let r = a.reads in
          refused r (unknown list text r.content r.opened s.nodes leads s.at a.opening a.letter_next
          (omega (arith, r.deep)) few (tag_is ∙ e)) refl

      module _ (listed : tag ≢ 0) where
        pub tag_listed : tag ≤ line_count list
        tag_listed = rw found (tag_few list (line_count list) listing.checked _ (λ z. listed (found ∙ z)))

        -- the element is open
        pub tag_opens : (w : ℕ) → w ≡ packed tag s.top 0 0 → ReadsAt list text (set words s.nodes w) start_gap
            (record { at = s.at + 1 + bytes; top = s.nodes; depth = s.depth + 1; nodes = s.nodes + 1 })
        tag_opens w e =
            let r = a.reads in
            let n : s.nodes + 1 ≡ suc s.nodes = add-one s.nodes in
            rw n (record {
              content = ε;
              opened = an_open tag r.content ∷ r.opened;
              goes =
                  r.goes ∙ opened list text r.content r.opened s.nodes leads s.at a.opening a.letter_next
                  (omega (arith, r.deep)) few (λ z. listed (sym tag_is ∙ z))
                  ∙ rw (tag_is, bytes_is);
              holds = holds_open r.holds (e ∙ packed_tag tag s.top) (omega arith) tag_listed r.above (omega (arith, r.room));
              deep = omega (arith, r.deep);
              above = omega arith;
              few = few;
              within = rw bytes_is (run-within (class_within 1 3) text (s.at + 1) (omega (arith, name-there)));
              short = r.short;
              room = length-set words s.nodes w ∙ r.room;
            })

-- ---- an end tag

-- the innermost open element: its node is read, and holds its tag
record Innermost (list words : List ℕ) (os : List Open) (top n : ℕ) : Type 0 where
  read : top < n
  tag_is : get_or words top 0 % 65536 ≡ innermost os
  some : 1 ≤ innermost os
  listed : innermost os ≤ line_count list

innermost-there : {list words : List ℕ} {os : List Open} {top n : ℕ} {d : Document} → Holds words
    (line_count list) os top n d → 1 ≤ length os → Innermost list words os top n
unfolding innermost
innermost-there (outermost s) h = absurd (omega arith)
innermost-there (inside at s rest) h = record
    { read = omega (arith, s.count); tag_is = open_tag at (omega arith); some = at.tag_some; listed = at.tag_few }

-- where an element is open, its node is read
pub top_inside : {list text words : List ℕ} {place : List Open → Place} {s : Scan} → Reads list text words place s → 1 ≤ s.depth
    → s.top < s.nodes
top_inside r deep = (innermost-there r.holds (omega (arith, r.deep))).read

module _ {list text words : List ℕ} {s : Scan} (r : ReadsAt list text words end_open s) (deep : 1 ≤ s.depth) where
  top : Innermost list words r.opened s.top s.nodes
  top = innermost-there r.holds (omega (arith, r.deep))

  top_tag_some : 1 ≤ get_or words s.top 0 % 65536
  top_tag_some = rw top.tag_is top.some

  top_tag_listed : get_or words s.top 0 % 65536 ≤ line_count list
  top_tag_listed = rw top.tag_is top.listed

  module _ (first : ℕ) (told_first : first ≡ first_class (drop s.at text)) where
    pub end_open_stuck : first ≢ 1 → Refuses (form_of list text) (stop_by first s.at)
    end_open_stuck h = stopped r first s.at
        (stuck_end_open list text r.content r.opened s.nodes s.at first (sym told_first) h)

  -- the name, compared with that of the innermost open element
  module _ {table : Table} (listing : Listing list table) (name : List ℕ)
      (open_name : name ≡ name_by list table (get_or words s.top 0 % 65536)) where
    pub top_named : Yes (is_name name)
    top_named = rw open_name (named_well listing _ top_tag_some top_tag_listed)

    pub end_other : same_bytes name (name_at (drop s.at text)) ≡ false → first_class (drop s.at text) ≡ 1 → Refuses
        (form_of list text) (OtherName s.at)
    unfolding said_refusal
    end_other e letter_there =
        refused r
        (other_name list text r.content r.opened s.nodes s.at letter_there
        (λ z. tag_other listing _ top_tag_some top_tag_listed _ (rw open_name at e) (z ∙ sym top.tag_is)))
        refl

    module _ (own : same_bytes name (name_at (drop s.at text)) ≡ true) (end : ℕ) (ends : end ≡ s.at + length name) where
      name-there-is : name ≡ name_at (drop s.at text)
      name-there-is = bytes_same _ _ own

      named : ReadsAt list text words end_gap (at_offset s end)
      named =
          let skipped : end ≡ s.at + run (class_within 1 3)
          (drop s.at text) = ends ∙ ap (λ (l : List ℕ). s.at + length l) name-there-is ∙ ap (λ (m : ℕ). s.at + m)
          (name-length (drop s.at text)) in
          rw skipped (reads_on r (λ os. end_gap) _ (run-within (class_within 1 3) text s.at r.within)
          (own_name list text r.content r.opened s.nodes s.at (name-first _ (rw name-there-is at top_named))
          (tag_named listing _ top_tag_some top_tag_listed _ (rw open_name at own) ∙ top.tag_is)))

      pub own_within : end ≤ length text
      own_within = named.within

      module _ (at class : ℕ) (past : at ≡ end + run (class_within 0 0) (drop end text)) (told : class ≡ first_class (drop at text)) where
        behind-name : ReadsAt list text words end_gap (at_offset s at)
        behind-name = past_white named at past end_gap_waits

        pub end_gap_stuck : class ≢ 5 → Refuses (form_of list text) (stop_by class at)
        end_gap_stuck h =
            stopped behind-name class at (stuck_end_gap list text behind-name.content behind-name.opened s.nodes at class
            (sym told) (no_white_left named at past class told) h)

        pub end_closes : class ≡ 5 → Reads list text (closed_words words s) outside (closed_scan words s (at + 1))
        end_closes e =
            closes behind-name deep (at + 1) (omega (arith, byte_there text at (omega arith)))
            (end-ends list text behind-name.content behind-name.opened s.nodes at (sym told ∙ e))

-- ---- a text

module _ {list text words : List ℕ} {s : Scan} (r : ReadsAt list text words blank s) (deep : 1 ≤ s.depth)
    (solid : Solid (first_class (drop s.at text))) where
  pub text_many : 4096 ≤ s.nodes → Refuses (form_of list text) (ManyNodes s.at)
  unfolding said_refusal
  text_many h =
      refused r (text_too_many list text r.content r.opened s.nodes s.at _ refl solid.no_white solid.no_less
      solid.no_greater solid.allowed h) refl

  module _ (few : s.nodes < 4096) (bytes class : ℕ) (bytes_is : bytes ≡ run text_byte (drop s.at text))
      (told : class ≡ first_class (drop (s.at + bytes) text)) where
    behind-it : class ≡ first_class (drop (text_end text s.at) text)
    behind-it = told ∙ ap (λ (n : ℕ). first_class (drop (s.at + n) text)) bytes_is

    pub text_stuck : class ≢ 4 → Refuses (form_of list text) (stop_by class (s.at + bytes))
    text_stuck h =
        rw bytes_is (stopped r class _
        (text_broken list text r.content r.opened s.nodes s.at _ refl solid.no_white solid.no_less solid.no_greater
        solid.allowed few class (sym behind-it) h))

    pub text_later : class ≡ 4 → s.at < s.at + bytes
    text_later e = by (ℕ_discrete bytes 0)
      where
        by : Dec (bytes ≡ 0) → s.at < s.at + bytes
        by (yes z) =
            let here : s.at + bytes ≡ s.at = omega arith in
            absurd (solid.no_less (ap (λ (i : ℕ). first_class (drop i text)) (sym here) ∙ sym told ∙ e))
        by (no z) = omega arith

    bytes_within : s.at + bytes ≤ length text
    bytes_within = rw bytes_is (run-within text_byte text s.at r.within)

    -- the text, trimmed
    module _ (less_there : class ≡ 4) (t : List ℕ) (trimmed-is : t ≡ trim (take bytes (drop s.at text))) where
      pub text_short : s.at + length t ≤ length text
      text_short = omega (
        arith,
        ap (λ (l : List ℕ). length l) trimmed-is,
        trim-most (take bytes (drop s.at text)),
        length-take-le bytes (drop s.at text) (rw length-drop (omega (arith, bytes_within))),
        bytes_within,
        r.within,
      )

      text_is : text_at (drop s.at text) ≡ t
      text_is =
          let e : first_class (drop (run text_byte (drop s.at text)) (drop s.at text)) ≡ 4 = rw drop-drop (sym behind-it ∙ less_there) in
          text_run (drop s.at text) e ∙ ap (λ (m : ℕ). trim (take m (drop s.at text))) (sym bytes_is) ∙ sym trimmed-is

      module _ (kind w : ℕ) (kind-is : kind ≡ kind_of_text t) (word-is : w ≡ packed (64 + kind) 1 s.at (length t)) where
        abbrev span : Span
        span = record { start = s.at; bytes = length t }

        node-is : text_node s.at (text_at (drop s.at text)) ≡ Element.text kind span
        unfolding text_node
        node-is = rw (text_is, ← kind-is)

        pub text_read : Reads list text (set words s.nodes w) outside
            (record { at = s.at + bytes; top = s.top; depth = s.depth; nodes = s.nodes + 1 })
        text_read =
            let n : s.nodes + 1 ≡ suc s.nodes = add-one s.nodes in
            let less_next : first_class (drop (text_end text s.at) text) ≡ 4 = sym behind-it ∙ less_there in
            rw n (reads-outside deep (record {
              content = behind r.content (Element.text kind span);
              opened = r.opened;
              goes =
                  r.goes ∙ text_ends list text r.content r.opened s.nodes s.at _ refl solid.no_white solid.no_less
                  solid.no_greater solid.allowed few less_next
                  ∙ rw (node-is, bytes_is);
              holds =
                  holds_text r.holds w kind span (omega (arith, r.room))
                  (ap unpacked word-is ∙ unpacked-packed (64 + kind) 1 s.at (length t)
                  (omega (arith, kind_range t)) (omega arith)
                  (omega (arith, r.within, r.short)));
              deep = r.deep;
              above = omega (arith, r.above);
              few = few;
              within = bytes_within;
              short = r.short;
              room = length-set words s.nodes w ∙ r.room;
            }))

-- ---- a token of content

module _ {list text words : List ℕ} {s : Scan} (reads : Reads list text words outside s) (deep : 1 ≤ s.depth) (at class : ℕ)
    (skipped : at ≡ s.at + run (class_within 0 0) (drop s.at text)) (told : class ≡ first_class (drop at text)) where
  token_there : ReadsAt list text words blank (at_offset s at)
  token_there = past_white (reads-blank deep reads) at skipped blank_waits

  -- a tag
  module _ (less_there : class ≡ 4) (next : ℕ) (told_next : next ≡ first_class (drop (at + 1) text)) where
    start_tag_there : next ≡ 1 → AtStartTag list text words (at_offset s at)
    start_tag_there e = record {
      place = blank;
      leads = inr refl;
      reads = token_there;
      opening = sym told ∙ less_there;
      letter_next =
          sym told_next ∙ e;
    }

    pub end_tag_there : next ≡ 6 → ReadsAt list text words end_open (at_offset s (at + 2))
    end_tag_there e =
        reads_on token_there (λ os. end_open) (at + 2) (omega (arith, byte_there text (at + 1) (omega arith)))
        (end_on list text token_there.content token_there.opened s.nodes at (sym told ∙ less_there) (sym told_next ∙ e))

    pub tag_stuck : next ≢ 1 → next ≢ 6 → Refuses (form_of list text) (stop_by next (at + 1))
    tag_stuck a b =
        stopped token_there next (at + 1)
        (less_on list text token_there.content token_there.opened s.nodes in_content at (sym told ∙ less_there)
        (λ e. a (told_next ∙ e))
        ∙ stuck_tag_open list text token_there.content token_there.opened s.nodes (at + 1) next (sym told_next) a b)

  pub content_stuck : (eqb class 5 || leb 8 class) ≡ true → Refuses (form_of list text) (stop_by class at)
  content_stuck e = stopped token_there class
      at (stuck_blank list text token_there.content token_there.opened s.nodes at class (sym told)
      (by (or_cases (eqb class 5) (leb 8 class) e)))
    where
      by : Yes (eqb class 5) ⊎ Yes (leb 8 class) → (class ≡ 5) ⊎ (8 ≤ class)
      by (inl e) = inl (same class 5 e)
      by (inr e) = inr (leb-true 8 class e)

  -- a text
  pub text_there : class ≢ 4 → (eqb class 5 || leb 8 class) ≡ false → ReadsAt list text words blank (at_offset s at) × Solid
      (first_class (drop at text))
  text_there no_less e = (
    token_there,
    rw (← told) (record {
      no_white = no_white_left (reads-blank deep reads) at skipped class told;
      no_less = no_less;
      no_greater = λ z. never (sym e ∙ or_left (leb 8 class) (eqb_yes z));
      allowed = small (dec_le 8 class);
    }),
  )
    where
      small : Dec (8 ≤ class) → class < 8
      small (yes h) = never (sym e ∙ or_right (eqb class 5) (le-leb 8 class h))
      small (no h) = omega arith

-- the root's start tag, or a token of content
module _ {list text words : List ℕ} {s : Scan} (at class : ℕ) (skipped : at ≡ s.at + run (class_within 0 0) (drop s.at text))
    (told : class ≡ first_class (drop at text)) where
  -- before the root's start tag no white is left
  same_place : AtStartTag list text words s → at ≡ s.at
  same_place a = omega (arith, no_white_run text s.at (λ z. absurd (omega (arith, a.opening))))

  pub no_root : class ≢ 4 → AtToken list text words s → InContent list text words s
  no_root no_less (inl a) = absurd (no_less (rw (same_place a) at told ∙ a.opening))
  no_root no_less (inr r) = r

  module _ (next : ℕ) (told_next : next ≡ first_class (drop (at + 1) text)) where
    pub no_root_tag : next ≢ 1 → AtToken list text words s → InContent list text words s
    no_root_tag no_letter (inl a) = absurd (no_letter (rw (same_place a) at told_next ∙ a.letter_next))
    no_root_tag no_letter (inr r) = r

    pub at-start_tag : class ≡ 4 → next ≡ 1 → AtToken list text words s → AtStartTag list text words (at_offset s at)
    at-start_tag less_there letter (inl a) = rw (same_place a) a
    at-start_tag less_there letter (inr (deep, r)) = start_tag_there r deep at class skipped told less_there next told_next letter

pub token_within : {list text words : List ℕ} {s : Scan} → AtToken list text words s → (s.at ≤ length text) × (length text ≤ 65535)
token_within (inl a) = (a.reads.within, a.reads.short)
token_within (inr (deep, r)) = (r.within, r.short)

-- a token that begins later begins as late
pub goes-from : (list text words : List ℕ) {i j : ℕ} (step : Step) → i ≤ j → Goes list text words j step → Goes list text words i step
goes-from list text words (Ok s) h (later, r) = (omega arith, r)
goes-from list text words (Err x) h r = r

-- ---- before the root

pub first-there : (list text words : List ℕ) → length text ≤ 65535 → length words ≡ 4096 → ReadsAt list text words before (scan_at 0)
first-there list text words short room = record {
  content = ε;
  opened = [];
  goes = scan-is list text ∙ rw (le-leb (length text) 65535 short);
  holds = holds_none;
  deep = refl;
  above = omega arith;
  few = omega arith;
  within = omega arith;
  short = short;
  room = room;
}

module _ {list text words : List ℕ} {s : Scan} (r : ReadsAt list text words before s) (at class : ℕ)
    (skipped : at ≡ s.at + run (class_within 0 0) (drop s.at text)) (told : class ≡ first_class (drop at text)) where
  root-there : ReadsAt list text words before (at_offset s at)
  root-there = past_white r at skipped before_waits

  pub root_stuck : class ≢ 4 → Refuses (form_of list text) (stop_by class at)
  root_stuck h =
      stopped root-there class at (stuck_before list text root-there.content root-there.opened s.nodes at class (sym told)
      (no_white_left r at skipped class told) h)

  module _ (less_there : class ≡ 4) (next : ℕ) (told_next : next ≡ first_class (drop (at + 1) text)) where
    pub root_open_stuck : next ≢ 1 → Refuses (form_of list text) (stop_by next (at + 1))
    root_open_stuck h =
        stopped root-there next (at + 1)
        (less_on list text root-there.content root-there.opened s.nodes at-root at (sym told ∙ less_there) (λ e. h (told_next ∙ e))
        ∙ stuck_root_open list text root-there.content root-there.opened s.nodes (at + 1) next (sym told_next) h)

    pub root_tag : next ≡ 1 → AtStartTag list text words (at_offset s at)
    root_tag e = record {
      place = before;
      leads = inl refl;
      reads = root-there;
      opening = sym told ∙ less_there;
      letter_next =
          sym told_next ∙ e;
    }

-- ---- after the root

-- no element is open
outside_none : (os : List Open) → length os ≡ 0 → outside os ≡ after
unfolding outside
outside_none [] h = refl
outside_none (o ∷ os) h = absurd (omega arith)

module _ {list text words : List ℕ} {s : Scan} (r : Reads list text words outside s) (done : s.depth ≤ 0) (at : ℕ)
    (skipped : at ≡ s.at + run (class_within 0 0) (drop s.at text)) where
  closed-there : ReadsAt list text words after s
  closed-there = reads_on r (λ os. after) s.at r.within
      (ap (λ p. onward list text (state p r.content r.opened s.nodes) s.at) (outside_none r.opened (omega (arith, r.deep))))

  after-there : ReadsAt list text words after (at_offset s at)
  after-there = past_white closed-there at skipped after_waits

  pub after_stuck : (class : ℕ) → class ≡ first_class (drop at text) → at < length text → Refuses (form_of list text)
      (stop_by class at)
  after_stuck class told there =
      stopped after-there class at
      (stuck_after list text after-there.content after-there.opened s.nodes at class (sym told) there
      (no_white_left closed-there at skipped class told))

  pub whole_read : length text ≤ at → Whole list text words s.nodes
  whole_read out =
      let (count, encoded) = holds-all after-there.holds (omega (arith, after-there.deep)) in
      record {
        form = after-there.content;
        is = after-there.goes ∙ all_read list text after-there.content after-there.opened s.nodes at out;
        count = count;
        few = r.few;
        encoded = encoded;
        room = r.room;
      }
