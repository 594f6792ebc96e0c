-- Document 01's cases 1 to 10; beside them runs that tell each kind of step and the looks of an order part, and joins word by word: one
-- table, and one theorem over its rows, closed by computation.
use mathlib.Core.Path.{refl}
use mathlib.Core.List.{flat_map}
use Rattle.model.specs.Lists.{◌∈◌, has, every, only, from, row, grid}
use Rattle.model.specs.Answers.{◌>>=◌, ◌>>◌, require, room_for, answer_of, buffer_after}
use Rattle.model.specs.Tree.{size, words, text_symbol, tag_symbol, look, children_by, children, tree_of}
use Rattle.model.specs.Sheet.{mask, set_words, signed_word, arc_word, order_words, sum_words, step_words, count_words, rule_words}
use Rattle.model.specs.Sheet.{sheet_words, small, then, word, one_of, all, bit, members, set_below, arc_ok, arc, order, signed}
use Rattle.model.specs.Sheet.{coefficient, sum, at_most_step, remainder_step, one_earlier, two_earlier, step, steps, target}
use Rattle.model.specs.Sheet.{text_rule, tag_rule, order_rule, count_rule, order_count_rule, rule, sheet, ended, sheet_of, file_words}
use Rattle.model.specs.Words.{entered, next_set, last_set, meets, fits_order, reads_from, reads, occurrences, total, remainder_of}
use Rattle.model.specs.Words.{holds, truths, fits_count}
use Rattle.model.specs.Run.{at_text, at_content, at_tag, text_targets, content_targets, element_targets, kind, of_kind, looks_of}
use Rattle.model.specs.Run.{tries, element_looks, and_also, gist, items, child_words, child_states, judge_text, judge_element}
use Rattle.model.specs.Run.{judge_node, run, last_zero, root_verdict, verdict}
use Rattle.model.specs.Compose.{swapped, lift_order, pair_order, joint_order, coefficient_of, lift_sum, lift_step, joint_count}
use Rattle.model.specs.Compose.{pair_rule, joint_rules, joint, positions_of, arcs_of, steps_of, within_limits}
use Rattle.model.specs.Bytes.{class_number, is, class_of, letter_byte, name_byte, is_name, same_bytes, digit_byte, kind_of_text}
use Rattle.model.specs.Names.{prepend, lines, number_from, tag_of, good_line, lines_checked, names_of}
use Rattle.model.specs.Text.{moves, move, place_number, move_number, does, name_at, trimmed, text_at, behind, text_node, tag_node}
use Rattle.model.specs.Text.{outside, closed, moved, state_at, refusal_2, refusal_3, refusal_4, innermost, refusal_5, start_tag}
use Rattle.model.specs.Text.{refusal_6, refusal_7, number_at, first_refused, form_of}
use Rattle.model.specs.Calls.{read, read_tree, judge, verdict_of, judge_said, first_states, states_after, judge_states, swap}
use Rattle.model.specs.Calls.{swap_out, in_second, joined, join, join_said, join_out, formcheck}
use Rattle.model.specs.Line.{bytes, digits, decimal, field, line_of, formcheck_line}
use Rattle.model.specs.Examples.{Row, Holds, room, times, file}
use Rattle.model.specs.CaseTable.{list, rules_of_S, S, S_plus, S_swapped, T, bare_sheet, check, with_leaves, judge_leaves, two_leaves}
use Rattle.model.specs.CaseTable.{counts_by, most, least, leave, minus_leave, sheet_with, texts_and_tags_S, texts_and_tags_T}
use Rattle.model.specs.CaseTable.{joint_rule, table}
use Rattle.model.proofs.Examples.{All, that_is-all, ◌and◌, all-∈}

-- ---- the theorem

computed : All Holds table
unfolding table list rules_of_S S S_plus S_swapped T bare_sheet check with_leaves judge_leaves two_leaves counts_by most least leave
    minus_leave sheet_with texts_and_tags_S texts_and_tags_T joint_rule room times file bytes flat_map has every only from row grid ◌>>=◌
    ◌>>◌ require room_for answer_of buffer_after size words text_symbol tag_symbol look children_by children tree_of mask set_words
    signed_word arc_word order_words sum_words step_words count_words rule_words sheet_words small then word one_of all bit members
    set_below arc_ok arc order signed coefficient sum at_most_step remainder_step one_earlier two_earlier step steps target text_rule
    tag_rule order_rule count_rule order_count_rule rule sheet ended sheet_of file_words entered next_set last_set meets fits_order
    reads_from reads occurrences total remainder_of holds truths fits_count at_text at_content at_tag text_targets content_targets
    element_targets kind of_kind looks_of tries element_looks and_also gist items child_words child_states judge_text judge_element
    judge_node run last_zero root_verdict verdict swapped lift_order pair_order joint_order coefficient_of lift_sum lift_step joint_count
    pair_rule joint_rules joint positions_of arcs_of steps_of within_limits class_number is class_of letter_byte name_byte is_name
    same_bytes digit_byte kind_of_text prepend lines number_from tag_of good_line lines_checked names_of moves move place_number move_number
    does name_at trimmed text_at behind text_node tag_node outside closed moved state_at refusal_2 refusal_3 refusal_4 innermost refusal_5
    start_tag refusal_6 refusal_7 number_at first_refused form_of read read_tree verdict_of swap swap_out in_second joined join join_said
    join_out judge judge_said first_states states_after judge_states formcheck digits decimal field line_of formcheck_line
computed =
    refl and refl and refl and refl and refl and refl and refl and refl and refl and refl and refl and refl and refl and refl and refl and
    refl and refl and refl and refl and refl and refl and refl and refl and refl and refl and refl and refl and refl and refl and refl and
    refl and refl and refl and refl and refl and refl and refl and refl and refl and refl and refl and refl and refl and refl and refl and
    refl and refl and refl and refl and that_is-all

pub cases_hold : (r : Row) → r ∈ table → Holds r
cases_hold = all-∈ computed
