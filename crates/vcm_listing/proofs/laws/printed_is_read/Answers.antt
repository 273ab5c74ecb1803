use Rattle.std.proofs.Common.{sym, ap}
use Rattle.vcm_image.specs.Whole.{spelling}
use Rattle.vcm_listing.proofs.FaultLaws.{none_of_valid}
use Rattle.vcm_listing.proofs.ListingLaws.{listing_once}
use Rattle.vcm_listing.proofs.laws.printed_is_read.Goals as goal

pub returns : goal.returns
returns g c d f fits valid others same =
    let one = listing_once d c others fits (sym same) in
    (one, (ap spelling one, none_of_valid c f fits valid))
