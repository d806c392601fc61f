use Rattle.rules.proofs.Printed.{listings_print_latest_writes}
use Rattle.rules.proofs.laws.listings_print_the_latest_writes.Goals as goal

pub returns : goal.returns
returns c = listings_print_latest_writes
