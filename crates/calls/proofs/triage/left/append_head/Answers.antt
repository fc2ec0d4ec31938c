use Rattle.calls.proofs.triage.AppendLemmas.{five_pieces}
use Rattle.calls.proofs.triage.left.append_head.Goals as goal

pub returns : goal.returns
returns c =
    five_pieces c.args.out.now.items c.append_pieces.new.out.items c.append_member.new.out.items c.append_pieces-2.new.out.items
    c.append_member-2.new.out.items c.append_pieces-3.new.out.items _ _ _ _ _ c.in_ok-append_pieces.ensures.ok c.in_ok-append_member.ensures
    c.in_ok-append_pieces-2.ensures.ok c.in_ok-append_member-2.ensures c.in_ok-append_pieces-3.ensures.ok
