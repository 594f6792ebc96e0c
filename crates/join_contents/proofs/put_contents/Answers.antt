-- `put_contents` meets its contract: the map, the parts and the target, one after another.
use Rattle.page.proofs.PageLaws.{then, as_words}
use Rattle.join_contents.proofs.ContentLaws.{targets_small, targets_pair, content-words_in}
use Rattle.join_contents.proofs.put_contents.Goals as goal

pub pair-target-requires : goal.pair-target-requires
pair-target-requires c =
    let s = c.target_state.ensures in
    let t = c.target_state-2.ensures in
    targets_small c.args.rules.now s.is t.is s.few t.few

pub returns : goal.returns
returns c =
    let target
    = targets_pair c.args.rules.now c.target_state.ensures.is c.target_state-2.ensures.is c.pair-target.ensures.0 in
    as_words (content-words_in c.args.rules.now c.requires.map c.joint_map.ensures target)
    (then c.put.ensures (then c.put_order.ensures (then c.put_count.ensures c.put-2.ensures)))
