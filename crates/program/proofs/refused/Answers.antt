-- `program::refused` meets its contract: the page is one line. Assumes nothing.
use Rattle.program.proofs.ProgramLaws.{refusal-room, refused-step}
use Rattle.program.proofs.refused.Goals as goal

pub put_refusal-requires : goal.put_refusal-requires
put_refusal-requires c = refusal-room _ _ _ c.requires

pub returns : goal.returns
returns c =
    λ store. refused-step store c.args.refusal c.args.out.now c.requires _ _ _ _ c.number-number.ensures c.place-place.ensures c.put_refusal.ensures.next c.put_refusal.ensures.bytes
