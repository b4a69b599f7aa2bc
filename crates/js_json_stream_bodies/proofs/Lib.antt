mod MemberRoundTrip
mod Parts
mod ConfigRoundTrip
