mod Compact
mod CompactText
mod EventData
mod EventLine
mod EventPushed
mod EventRead
mod ExtendedData
mod ExtendedRead
mod RelayConfigRead
mod FiltersRead
mod Headers
mod LinesAgree
pub mod LinesRead
mod Loop
mod MembersRead
mod MessageRead
mod MessagesYielded
pub mod OtherKeys
mod Printed
mod PushedText
mod RelaySetupRead
mod RecordableRead
mod ResilienceRead
mod RowsRead
mod StringsRead
mod RelayTranscriptRead
pub mod TranscriptsAgree
pub mod TranscriptsRead
mod ValuesRead
mod LineParts
