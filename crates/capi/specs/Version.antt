-- The number of the C interface. It goes up whenever the interface changes.
use Rattle.std.specs.Prelude.{ℕ}

abbrev pub interface_number : ℕ
interface_number = 7
