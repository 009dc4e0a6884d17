-- `calls::figures` meets its contract: 20 and 21 are tried, and then the made formula is measured. Assumes nothing.
use Rattle.std.proofs.Common.{ap, ◌∙◌}
use Rattle.store.specs.Refusals.{done}
use Rattle.measure.specs.Figures.{figures_of}
use Rattle.standing.proofs.StandingLaws.{admitted-is, stands}
use Rattle.calls.specs.Calls.{figures_says}
use Rattle.calls.proofs.figures.Goals as goal

pub returns : goal.returns
unfolding figures_says
returns c = rw (stands _ c.in_ok-store.ensures) (ap done (c.figures_of.ensures ∙ ap figures_of (admitted-is _ c.in_ok-store.ensures)))
