mod NumeralsAreRead
mod RefusalKinds
mod PlainWordsMean
mod UncheckedRefusals
