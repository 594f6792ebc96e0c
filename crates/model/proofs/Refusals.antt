-- Computed examples of each refusal, with their neighbours, and of two refusals at once, for the order within a call: one table, and one
-- theorem over its rows. What is too large to compute on is in LargeInputs.
use mathlib.Core.Path.{refl}
use mathlib.Core.List.{flat_map}
use Rattle.model.specs.Lists.{◌∈◌, has, every, only, from, row, grid}
use Rattle.model.specs.Answers.{◌>>=◌, ◌>>◌, require, room_for, answer_of, buffer_after}
use Rattle.model.specs.Tree.{size, words, nodes, text_symbol, tag_symbol, look, children_by, children, tree_of}
use Rattle.model.specs.Sheet.{mask, set_words, signed_word, arc_word, order_words, sum_words, step_words, count_words, rule_words}
use Rattle.model.specs.Sheet.{sheet_words, small, then, word, one_of, all, bit, members, set_below, arc_ok, arc, order, signed}
use Rattle.model.specs.Sheet.{coefficient, sum, at_most_step, remainder_step, one_earlier, two_earlier, step, steps, target}
use Rattle.model.specs.Sheet.{text_rule, tag_rule, order_rule, count_rule, order_count_rule, rule, sheet, ended, sheet_of, file_words}
use Rattle.model.specs.Words.{entered, next_set, last_set, meets, fits_order, reads_from, reads, occurrences, total, remainder_of}
use Rattle.model.specs.Words.{holds, truths, fits_count}
use Rattle.model.specs.Run.{at_text, at_content, at_tag, text_targets, content_targets, element_targets, kind, of_kind, looks_of}
use Rattle.model.specs.Run.{tries, element_looks, and_also, gist, items, child_words, child_states, judge_text, judge_element}
use Rattle.model.specs.Run.{judge_node, run, last_zero, root_verdict, verdict}
use Rattle.model.specs.Compose.{swapped, lift_order, pair_order, joint_order, coefficient_of, lift_sum, lift_step, joint_count}
use Rattle.model.specs.Compose.{pair_rule, joint_rules, joint, positions_of, arcs_of, steps_of, within_limits}
use Rattle.model.specs.Bytes.{class_number, is, class_of, letter_byte, name_byte, is_name, same_bytes, digit_byte, kind_of_text}
use Rattle.model.specs.Names.{prepend, lines, number_from, tag_of, name_of, good_line, lines_checked, names_of}
use Rattle.model.specs.Written.{source_bytes, tagged, written, text_byte, solid_byte, trimmed_text, good_text, good_words}
use Rattle.model.specs.Written.{texts_checked, short_enough}
use Rattle.model.specs.Text.{moves, move, place_number, move_number, does, name_at, trimmed, text_at, behind, text_node, tag_node}
use Rattle.model.specs.Text.{outside, closed, moved, state_at, refusal_2, refusal_3, refusal_4, innermost, refusal_5, start_tag}
use Rattle.model.specs.Text.{refusal_6, refusal_7, number_at, first_refused, form_of}
use Rattle.model.specs.Calls.{names_said, read_said, read_tree, tree_said, write_said, write_out, sheet_said, from_file}
use Rattle.model.specs.Calls.{from_file_said, from_file_sheet, verdict_of, judge_said, first_states, states_after, judge_states}
use Rattle.model.specs.Calls.{swap_said, swap_out, in_second, joined, join_said, join_out, formcheck}
use Rattle.model.specs.Calls as calls
use Rattle.model.specs.Line.{bytes}
use Rattle.model.specs.Examples.{Row, Holds, room, times, file, ab, xs, around}
use Rattle.model.specs.RefusalTable.{two_letters, inside, lone, nested, with_rules, no_rule, one_rule, loops, true_steps}
use Rattle.model.specs.RefusalTable.{every_content, by_order, by_count, by_both, doubles, table}
use Rattle.model.proofs.Examples.{All, that_is-all, ◌and◌, all-∈}

-- ---- the theorem

computed : All Holds table
unfolding table two_letters inside lone nested with_rules no_rule one_rule every_content loops true_steps by_order by_count by_both doubles
    ab xs around room times file bytes flat_map has every only from row grid ◌>>=◌ ◌>>◌ require room_for answer_of buffer_after size words
    nodes text_symbol tag_symbol look children_by children tree_of mask set_words signed_word arc_word order_words sum_words step_words
    count_words rule_words sheet_words small then word one_of all bit members set_below arc_ok arc order signed coefficient sum at_most_step
    remainder_step one_earlier two_earlier step steps target text_rule tag_rule order_rule count_rule order_count_rule rule sheet ended
    sheet_of file_words entered next_set last_set meets fits_order reads_from reads occurrences total remainder_of holds truths fits_count
    at_text at_content at_tag text_targets content_targets element_targets kind of_kind looks_of tries element_looks and_also gist
    items child_words child_states judge_text judge_element judge_node run last_zero root_verdict verdict swapped lift_order pair_order
    joint_order coefficient_of lift_sum lift_step joint_count pair_rule joint_rules joint positions_of arcs_of steps_of within_limits
    class_number is class_of letter_byte name_byte is_name same_bytes digit_byte kind_of_text prepend lines number_from tag_of name_of
    good_line lines_checked names_of source_bytes tagged written text_byte solid_byte trimmed_text good_text good_words texts_checked
    short_enough moves move place_number move_number does name_at trimmed text_at behind text_node tag_node outside closed moved state_at
    refusal_2 refusal_3 refusal_4 innermost refusal_5 start_tag refusal_6 refusal_7 number_at first_refused form_of names_said read_said
    tree_said write_said sheet_said from_file from_file_said verdict_of judge_said first_states states_after judge_states swap_said swap_out
    in_second joined join_said join_out calls.read calls.write calls.judge calls.swap calls.join read_tree write_out from_file_sheet
    formcheck
computed =
    refl and refl and refl and refl and refl and refl and refl and refl and refl and refl and refl and refl and refl and refl and refl and
    refl and refl and refl and refl and refl and refl and refl and refl and refl and refl and refl and refl and refl and refl and refl and
    refl and refl and refl and refl and refl and refl and refl and refl and refl and refl and refl and refl and refl and refl and refl and
    refl and refl and refl and refl and refl and refl and refl and refl and refl and refl and refl and refl and refl and refl and refl and
    refl and refl and refl and refl and refl and refl and refl and refl and refl and refl and refl and refl and refl and refl and refl and
    refl and refl and refl and refl and refl and refl and refl and refl and refl and refl and refl and refl and refl and refl and refl and
    refl and refl and refl and refl and refl and refl and refl and refl and refl and refl and refl and refl and refl and refl and refl and
    refl and refl and refl and refl and refl and refl and refl and refl and refl and refl and refl and refl and refl and refl and refl and
    refl and refl and refl and refl and refl and refl and refl and refl and refl and that_is-all

pub refusals_hold : (r : Row) → r ∈ table → Holds r
refusals_hold = all-∈ computed
