mod Readings
mod Totals
mod Worked
